use Rattle.xr_block.specs.FrameLaws.{then_changes}
use Rattle.xr_block.proofs.laws.changes_follow.Goals as goal

pub returns : goal.returns
returns c = then_changes
