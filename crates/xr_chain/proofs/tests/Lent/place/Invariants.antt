use Rattle.std.proofs.Common.{◌≡◌}
use Rattle.xr_chain.proofs.tests.Lent.place.Given as goal

abbrev pub invariant-loop-slot : goal.invariant-loop-slot
invariant-loop-slot l = (l.self-inside.one.number ≡ 0) × (l.self-inside.two.number ≡ 1) × (l.self-inside.group.number ≡ 0)
