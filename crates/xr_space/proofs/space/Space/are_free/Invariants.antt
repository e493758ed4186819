-- The runs below the place in the order by size stand in both trees. The length goes first.
use Rattle.std.proofs.Common.{◌≡◌, true, ◌+◌, ◌-◌, ◌*◌}
use Rattle.std.specs.Ordering.{is_lt}
use Rattle.xr_kinds.specs.declared.span.Span.{Span}
use Rattle.xr_kinds.specs.FreeRuns.{size_order}
use Rattle.xr_space.specs.Space.{IsFreeRun, IsRunBySize}
use Rattle.xr_space.proofs.space.Space.are_free.Given as goal

abbrev pub invariant-loop-run : goal.invariant-loop-run
invariant-loop-run l = (x : Span) → IsRunBySize l.over l.self x → is_lt (size_order x l.from) ≡ true → IsFreeRun l.over l.self x

abbrev pub decreases-loop-run : goal.decreases-loop-run
decreases-loop-run l = (2049 - l.from.len) * 2049 + (2049 - l.from.start)
