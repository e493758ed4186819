-- The records are a tree.
use Rattle.xr_rmap.specs.Rmap.{IsRmap}
use Rattle.xr_rmap.proofs.tests.follow.Given as goal

abbrev pub invariant-loop-call : goal.invariant-loop-call
invariant-loop-call g l = IsRmap l.over l.rmap
