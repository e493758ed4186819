use Rattle.xr_space.specs.SpaceLaws.{space_stays}
use Rattle.xr_space.proofs.laws.free_blocks_stay.Goals as goal

pub returns : goal.returns
returns c = space_stays
