use Rattle.std.proofs.Common.{rules}
use Rattle.xr_group.proofs.checked.are_paired.Goals as goal

pub returns : goal.returns
returns g c = c.paired.ensures.0 (search rules)
