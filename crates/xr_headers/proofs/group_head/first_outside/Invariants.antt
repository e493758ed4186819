use Rattle.std.proofs.Common.{ℕ, ◌<◌, get_or}
use Rattle.xr_headers.specs.Headers.{IsPoolRoot}
use Rattle.xr_headers.proofs.group_head.first_outside.Given as goal

abbrev pub invariant-loop-index : goal.invariant-loop-index
invariant-loop-index l = (k : ℕ) → k < l.index → IsPoolRoot (get_or l.roots k 0)
