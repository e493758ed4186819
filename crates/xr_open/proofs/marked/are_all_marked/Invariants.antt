use Rattle.std.proofs.Common.{◌≡◌, ℕ, ◌<◌, ◌≤◌, false, true}
use Rattle.xr_open.proofs.marked.are_all_marked.Given as goal
use Rattle.xr_pool.specs.Bits.{has_bit}
use Rattle.xr_pool.specs.Overlay.{is_free}

-- each used block that was passed is marked
abbrev pub invariant-loop-n : goal.invariant-loop-n
invariant-loop-n l = (k : ℕ) → 1 ≤ k → k < l.n → is_free l.over k ≡ false → has_bit l.marks k ≡ true
