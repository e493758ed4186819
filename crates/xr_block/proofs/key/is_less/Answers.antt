use Rattle.std.proofs.Common.{◌∙◌}
use Rattle.xr_block.specs.KeyLaws.{checked_order}
use Rattle.xr_block.proofs.key.is_less.Goals as goal

pub returns : goal.returns
returns c = c.lt.ensures ∙ checked_order c.args.key.now c.args.other.now
