use Rattle.std.proofs.Common.{arith}
use Rattle.xr_lookup.proofs.counting.count.Goals as goal

pub count_under-requires-clause-few : goal.count_under-requires-clause-few
count_under-requires-clause-few g c = omega (arith, c.requires.records.few, g.met.R.Record.numbers.same_most, c.MOST-most.ensures, c.MOST-most.type_inv)
