use Rattle.xr_bmap.specs.FreshFileLaws as laws
use Rattle.xr_bmap.proofs.laws.fresh_files_are_empty.Goals as goal

pub returns : goal.returns
returns c = laws.fresh_files_are_empty
