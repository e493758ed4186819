use Rattle.std.proofs.Common.{◌≡◌, ℕ, ◌<◌, ◌≤◌, false}
use Rattle.xr_pool.specs.Bits.{has_bit}
use Rattle.xr_pool.proofs.bits.first_bit.Given as goal

abbrev pub invariant-loop-n : goal.invariant-loop-n
invariant-loop-n l = (k : ℕ) → l.from ≤ k → k < l.n → has_bit l.bits k ≡ false
