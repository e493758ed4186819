-- The greatest record up to a place and the least from it on are beside it, by the laws of the order.
use Rattle.std.proofs.Common.{arith}
use Rattle.std.proofs.lemmas.Grind.{common_steps}
use Rattle.xr_tree.proofs.growth.beside.Goals as goal

pub returns-in-Some : goal.returns-in-Some
returns-in-Some g c = let laws = g.met.R.Record.is_form.total in grind (arith, common_steps)

pub returns-in_default : goal.returns-in_default
returns-in_default g c = let laws = g.met.R.Record.is_form.total in grind (arith, common_steps)
