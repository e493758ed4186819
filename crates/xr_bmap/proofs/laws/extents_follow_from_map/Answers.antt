use Rattle.xr_bmap.specs.ExtentListLaws as laws
use Rattle.xr_bmap.proofs.laws.extents_follow_from_map.Goals as goal

pub returns : goal.returns
returns c = laws.extents_follow_from_map
