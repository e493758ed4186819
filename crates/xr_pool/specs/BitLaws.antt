-- A bit that is set or cleared, and the others.
use Rattle.std.proofs.Common.{◌≡◌, ◌≢◌, ℕ, ◌*◌, ◌/◌, ◌%◌, ◌^◌, ◌<◌, ◌==◌, true, false, List, length, slice_index, slice_set, refl, sym, ap, ◌∙◌, arith, ⊎_elim}
use Rattle.std.proofs.Math.Pow.{pow-lt}
use Rattle.std.proofs.lemmas.Bool.{cases_eq}
use Rattle.std.proofs.lemmas.List.{get_or-set_other, get_or-set_same}
use Rattle.std.proofs.lemmas.Nat.Bits.{bit_at-lt, bit_at-pow_other, bit_at-pow_same, bit_at_and, bit_at_not, bit_at_or}
use Rattle.std.specs.Int.{bit_at, bit_not, w8}
use Rattle.std.specs.Int.RustNames.{bit_or}
use Rattle.std.specs.Prelude.{bit_and}
use Rattle.xr_pool.specs.Bits.{has_bit, with_bit, without_bit}

-- in a byte
set_same : (byte k : ℕ) → bit_at (bit_or byte (2 ^ k)) k ≡ 1
set_same byte k = omega (arith, bit_at_or byte (2 ^ k) k, bit_at-pow_same k, bit_at-lt byte k)

set_other : (byte k i : ℕ) → i ≢ k → bit_at (bit_or byte (2 ^ k)) i ≡ bit_at byte i
set_other byte k i other = omega (arith, bit_at_or byte (2 ^ k) i, bit_at-pow_other k i other)

clear_same : (byte k : ℕ) → k < 8 → bit_at (bit_and byte (bit_not w8 (2 ^ k))) k ≡ 0
clear_same byte k within =
    let small : 2 ^ k < 2 ^ 8 = pow-lt within in
    omega (arith, bit_at_and byte (bit_not w8 (2 ^ k)) k, bit_at_not w8 (2 ^ k) k small within, bit_at-pow_same k)

clear_other : (byte k i : ℕ) → k < 8 → i < 8 → i ≢ k → bit_at (bit_and byte (bit_not w8 (2 ^ k))) i ≡ bit_at byte i
clear_other byte k i within below other =
    let small : 2 ^ k < 2 ^ 8 = pow-lt within in
    omega (arith, bit_at_and byte (bit_not w8 (2 ^ k)) i, bit_at_not w8 (2 ^ k) i small below, bit_at-pow_other k i other, bit_at-lt byte i)

-- in a map, for any change of a byte that keeps the other bits
changed_other : (change : ℕ → ℕ → ℕ) → ((byte k i : ℕ) → k < 8 → i < 8 → i ≢ k → bit_at (change byte k) i ≡ bit_at byte i)
    → (bits : List ℕ) (n k : ℕ) → n < 8 * length bits → k ≢ n
    → has_bit (slice_set bits (n / 8) (change (slice_index bits (n / 8)) (n % 8))) k ≡ has_bit bits k
changed_other change keeps bits n k within other =
    let byte : ℕ = slice_index bits (n / 8) in
    let changed : ℕ = change byte (n % 8) in
    let now : List ℕ = slice_set bits (n / 8) changed in
    let same : bit_at (slice_index now (k / 8)) (k % 8) ≡ bit_at (slice_index bits (k / 8)) (k % 8) = ⊎_elim
    (λ (here : k / 8 ≡ n / 8).
    let apart : k % 8 ≢ n % 8 = λ equal. other (omega arith) in
    ap (λ (place : ℕ). bit_at (slice_index now place) (k % 8)) here
    ∙ ap (λ (found : ℕ). bit_at found (k % 8)) (get_or-set_same bits (n / 8) changed 0 (omega arith))
    ∙ keeps byte (n % 8) (k % 8) (omega arith) (omega arith) apart
    ∙ ap (λ (place : ℕ). bit_at (slice_index bits place) (k % 8)) (sym here))
    (λ (beside : k / 8 ≡ n / 8 → ⊥). ap (λ (found : ℕ). bit_at found (k % 8)) (get_or-set_other bits (n / 8) (k / 8) changed 0 beside))
    (cases_eq (k / 8) (n / 8)) in
    ap (λ (bit : ℕ). bit == 1) same

pub bit_set : (bits : List ℕ) (n : ℕ) → n < 8 * length bits → has_bit (with_bit bits n) n ≡ true
unfolding with_bit
bit_set bits n within =
    let byte : ℕ = slice_index bits (n / 8) in
    let here : slice_index (slice_set bits (n / 8) (bit_or byte (2 ^ (n % 8)))) (n / 8) ≡ bit_or byte (2 ^ (n % 8)) =
    get_or-set_same bits (n / 8) (bit_or byte (2 ^ (n % 8))) 0 (omega arith) in
    rw (here, set_same byte (n % 8)) refl

pub bit_cleared : (bits : List ℕ) (n : ℕ) → n < 8 * length bits → has_bit (without_bit bits n) n ≡ false
unfolding without_bit
bit_cleared bits n within =
    let byte : ℕ = slice_index bits (n / 8) in
    let cleared : ℕ = bit_and byte (bit_not w8 (2 ^ (n % 8))) in
    let here : slice_index (slice_set bits (n / 8) cleared) (n / 8) ≡ cleared = get_or-set_same bits (n / 8) cleared 0 (omega arith) in
    let clear : bit_at cleared (n % 8) ≡ 0 = clear_same byte (n % 8) (omega arith) in
    rw (here, clear) refl

pub bit_set_other : (bits : List ℕ) (n k : ℕ) → n < 8 * length bits → k ≢ n → has_bit (with_bit bits n) k ≡ has_bit bits k
unfolding with_bit
bit_set_other bits n k within other =
    changed_other (λ byte place. bit_or byte (2 ^ place)) (λ byte place i within below apart. set_other byte place i apart) bits n k within other

pub bit_cleared_other : (bits : List ℕ) (n k : ℕ) → n < 8 * length bits → k ≢ n → has_bit (without_bit bits n) k ≡ has_bit bits k
unfolding without_bit
bit_cleared_other bits n k within other = changed_other (λ byte place. bit_and byte (bit_not w8 (2 ^ place))) clear_other bits n k within other
