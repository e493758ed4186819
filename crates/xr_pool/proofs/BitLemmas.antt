-- The bit of a place in a byte.
use Rattle.std.proofs.Common.{◌≡◌, ℕ, ◌*◌, ◌^◌, ◌%◌, ◌<◌, ◌∙◌, ap, arith}
use Rattle.std.proofs.Math.Nat.{mod-eq_of_lt}
use Rattle.std.proofs.Math.Pow.{pow-lt}

pub one_bit : (k : ℕ) → k < 8 → 1 * 2 ^ k % 256 ≡ 2 ^ k
one_bit k within =
    let small : 2 ^ k < 2 ^ 8 = pow-lt within in
    let alone : 1 * 2 ^ k ≡ 2 ^ k = omega arith in
    ap (λ (n : ℕ). n % 256) alone ∙ mod-eq_of_lt (omega arith)
