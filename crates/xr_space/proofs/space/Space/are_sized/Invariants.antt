-- The runs that begin in front of the place stand in both trees.
use Rattle.std.proofs.Common.{◌<◌, ◌-◌}
use Rattle.xr_kinds.specs.declared.span.Span.{Span}
use Rattle.xr_space.specs.Space.{IsFreeRun, IsRunBySize}
use Rattle.xr_space.proofs.space.Space.are_sized.Given as goal

abbrev pub invariant-loop-run : goal.invariant-loop-run
invariant-loop-run l = (x : Span) → IsFreeRun l.over l.self x → x.start < l.place → IsRunBySize l.over l.self x

abbrev pub decreases-loop-run : goal.decreases-loop-run
decreases-loop-run l = 2048 - l.place
