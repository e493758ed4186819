use Rattle.std.proofs.Common.{arith}
use Rattle.xr_commit.proofs.read_live.read_part.Goals as goal

pub returns-in-Ok-clause-small : goal.returns-in-Ok-clause-small
returns-in-Ok-clause-small g c k = omega (arith, c.type_inv.out k)

pub returns-in-Err-clause-small : goal.returns-in-Err-clause-small
returns-in-Err-clause-small g c k = omega (arith, c.type_inv.out k)
