use Rattle.std.proofs.Common.{◌≡◌, ℕ, ◌<◌, ◌≤◌, false}
use Rattle.xr_pool.specs.Bits.{has_bit}
use Rattle.xr_verify.proofs.run_bits.are_clear.Given as goal

abbrev pub invariant-loop-n : goal.invariant-loop-n
invariant-loop-n l = (i : ℕ) → l.from ≤ i → i < l.n → has_bit l.bits i ≡ false
