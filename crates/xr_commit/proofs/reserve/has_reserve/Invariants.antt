use Rattle.std.proofs.Common.{ℕ, ◌<◌}
use Rattle.xr_record.specs.declared.head.Head.{Head}
use Rattle.std.proofs.Common.{get_or}
use Rattle.xr_commit.specs.Chain.{IsClear}
use Rattle.xr_commit.proofs.reserve.has_reserve.Given as goal

abbrev pub invariant-loop-head : goal.invariant-loop-head
invariant-loop-head l = (k : ℕ) (d : Head) → k < l.head-index → IsClear l.newest (get_or l.heads k d)
