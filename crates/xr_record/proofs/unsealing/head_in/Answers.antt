use Rattle.std.proofs.Common.{arith}
use Rattle.xr_record.proofs.unsealing.head_in.Goals as goal

pub returns-clause-small : goal.returns-clause-small
returns-clause-small c k = omega (arith, c.type_inv.bytes k)
