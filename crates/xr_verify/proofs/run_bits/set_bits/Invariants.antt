use Rattle.std.proofs.Common.{◌≡◌, ◌⊎◌, ℕ, ◌<◌, ◌≤◌, true}
use Rattle.xr_pool.specs.Bits.{has_bit}
use Rattle.xr_verify.proofs.run_bits.set_bits.Given as goal

abbrev pub invariant-loop-n : goal.invariant-loop-n
invariant-loop-n l =
    ((i : ℕ) → l.from ≤ i → i < l.n → has_bit l.bits i ≡ true) × ((i : ℕ) → (i < l.from) ⊎ (l.n ≤ i) → has_bit l.bits i ≡ has_bit l.fn.bits i)
