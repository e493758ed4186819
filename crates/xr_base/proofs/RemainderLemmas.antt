-- Remainders: those of a sum are the sums of the remainders, and a number without its lowest byte is what eight bits of
-- zeros leave of it.
use Rattle.std.proofs.Common.{◌≡◌, ℕ, zero, suc, ◌+◌, ◌-◌, ◌*◌, ◌/◌, ◌%◌, ◌^◌, ◌<◌, true, false, cond, eqb, ◌≤◌, List, [], ◌∷◌, length, get_or, take, drop, length-take, length-drop, take-append-drop, sym, ap, ◌∙◌, refl, arith, bit_xor}
use Rattle.std.proofs.Math.Nat.{pow-suc, mul_assoc}
use Rattle.std.proofs.lemmas.List.{drop-drop, get_or-take, get_or-drop}
use Rattle.std.specs.Int.Bits.{xor_assoc, xor_comm, xor_zero_r, xor_shr, xor_mod, xor_shifted}
use Rattle.xr_base.specs.Checksum.{polynomial, after_bit, after_bits, after_byte, after_bytes, le_number}
use Rattle.xr_base.specs.ChecksumLaws.{after_bits-suc, after_bits-zero, after_bytes-none, after_bytes-cons, after_bytes-append}

xor_swap : (a b c d : ℕ) → bit_xor (bit_xor a b) (bit_xor c d) ≡ bit_xor (bit_xor a c) (bit_xor b d)
xor_swap a b c d =
    xor_assoc a b (bit_xor c d)
    ∙ ap (bit_xor a) (sym (xor_assoc b c d) ∙ ap (λ (x : ℕ). bit_xor x d) (xor_comm b c) ∙ xor_assoc c b d)
    ∙ sym (xor_assoc a c (bit_xor b d))

-- what a bit that goes out adds
abbrev added : ℕ → ℕ
added bit = cond (eqb bit 1) polynomial 0

after_bit_sum : (r : ℕ) → after_bit r ≡ bit_xor (r / 2) (added (r % 2))
after_bit_sum r = elim (eqb (r % 2) 1) as (λ b. cond b (bit_xor (r / 2) polynomial) (r / 2) ≡ bit_xor (r / 2) (cond b polynomial 0)) [
  | true ↦ refl
  | false ↦ sym (xor_zero_r (r / 2))
]

added_xor : (a b : ℕ) → a < 2 → b < 2 → added (bit_xor a b) ≡ bit_xor (added a) (added b)
added_xor zero b low_a low_b = refl
added_xor (suc zero) zero low_a low_b = refl
added_xor (suc zero) (suc zero) low_a low_b = refl
added_xor (suc zero) (suc (suc b)) low_a low_b = absurd (omega arith)
added_xor (suc (suc a)) b low_a low_b = absurd (omega arith)

after_bit-xor : (a b : ℕ) → after_bit (bit_xor a b) ≡ bit_xor (after_bit a) (after_bit b)
after_bit-xor a b =
    after_bit_sum (bit_xor a b)
    ∙ ap (λ (half : ℕ). bit_xor half (added (bit_xor a b % 2))) (xor_shr a b 1)
    ∙ ap (bit_xor (bit_xor (a / 2) (b / 2))) (ap added (xor_mod a b 1) ∙ added_xor (a % 2) (b % 2) (omega arith) (omega arith))
    ∙ xor_swap (a / 2) (b / 2) (added (a % 2)) (added (b % 2))
    ∙ ap (λ (x : ℕ). bit_xor x (bit_xor (b / 2) (added (b % 2)))) (sym (after_bit_sum a))
    ∙ ap (bit_xor (after_bit a)) (sym (after_bit_sum b))

pub after_bits-xor : (n a b : ℕ) → after_bits n (bit_xor a b) ≡ bit_xor (after_bits n a) (after_bits n b)
unfolding after_bits
after_bits-xor zero a b = refl
after_bits-xor (suc n) a b = ap (after_bits n) (after_bit-xor a b) ∙ after_bits-xor n (after_bit a) (after_bit b)

after_bits-add : (m n r : ℕ) → after_bits (m + n) r ≡ after_bits n (after_bits m r)
unfolding after_bits
after_bits-add zero n r = ap (λ (bits : ℕ). after_bits bits r) (let none : 0 + n ≡ n = omega arith in none)
after_bits-add (suc m) n r =
    ap (λ (bits : ℕ). after_bits bits r) (let more : suc m + n ≡ suc (m + n) = omega arith in more) ∙ after_bits-add m n (after_bit r)

after_bit_even : (m : ℕ) → after_bit (m * 2) ≡ m
after_bit_even m =
    let even : m * 2 % 2 ≡ 0 = omega arith in
    let half : m * 2 / 2 ≡ m = omega arith in
    after_bit_sum (m * 2) ∙ ap (λ (bit : ℕ). bit_xor (m * 2 / 2) (added bit)) even ∙ xor_zero_r (m * 2 / 2) ∙ half

after_bits-shifted : (n q : ℕ) → after_bits n (q * 2 ^ n) ≡ q
after_bits-shifted zero q = after_bits-zero (q * 1) ∙ (let same : q * 1 ≡ q = omega arith in same)
after_bits-shifted (suc n) q =
    after_bits-suc n (q * 2 ^ suc n)
    ∙ ap (λ (r : ℕ). after_bits n (after_bit r)) (ap (λ (power : ℕ). q * power) (pow-suc 2 n) ∙ sym (mul_assoc q (2 ^ n) 2))
    ∙ ap (after_bits n) (after_bit_even (q * 2 ^ n))
    ∙ after_bits-shifted n q

-- the lowest byte of a number apart
pub after_bits-byte : (n m r : ℕ) → n ≡ 8 + m → after_bits n r ≡ bit_xor (after_bits n (r % 256)) (after_bits m (r / 256))
after_bits-byte n m r long =
    let q = r / 256 in
    let low = r % 256 in
    let parts : r ≡ q * 2 ^ 8 + low = omega arith in
    ap (after_bits n) (parts ∙ sym (xor_shifted q 8 low (omega arith)) ∙ xor_comm (q * 2 ^ 8) low)
    ∙ after_bits-xor n low (q * 2 ^ 8)
    ∙ ap (bit_xor (after_bits n low)) (
    ap (λ (bits : ℕ). after_bits bits (q * 2 ^ 8)) long ∙ after_bits-add 8 m (q * 2 ^ 8) ∙ ap (after_bits m) (after_bits-shifted 8 q))

-- some bytes at once, as a number
pub after_bytes-number : (r : ℕ) (bytes : List ℕ) → ((i : ℕ) → i < length bytes → get_or bytes i 0 < 256)
    → after_bytes r bytes ≡ after_bits (8 * length bytes) (bit_xor r (le_number bytes))
after_bytes-number r [] small = after_bytes-none r ∙ sym (after_bits-zero (bit_xor r 0) ∙ xor_zero_r r)
after_bytes-number r (byte ∷ bytes) small =
    let rest = le_number bytes in
    let low : byte < 256 = small 0 (omega arith) in
    let long : 8 + 8 * length bytes ≡ 8 * suc (length bytes) = omega arith in
    let number : byte + 256 * rest ≡ rest * 2 ^ 8 + byte = omega arith in
    let mixed : bit_xor r (byte + 256 * rest) ≡ bit_xor (bit_xor r byte) (rest * 2 ^ 8) =
    ap (bit_xor r) (number ∙ sym (xor_shifted rest 8 byte low) ∙ xor_comm (rest * 2 ^ 8) byte) ∙ sym (xor_assoc r byte (rest * 2 ^ 8)) in
    after_bytes-cons r byte bytes
    ∙ after_bytes-number (after_byte r byte) bytes (λ i within. small (suc i) (omega arith))
    ∙ ap (λ (x : ℕ). after_bits (8 * length bytes) (bit_xor (after_byte r byte) x)) (sym (after_bits-shifted 8 rest))
    ∙ ap (after_bits (8 * length bytes)) (sym (after_bits-xor 8 (bit_xor r byte) (rest * 2 ^ 8)) ∙ ap (after_bits 8) (sym mixed))
    ∙ sym (after_bits-add 8 (8 * length bytes) (bit_xor r (byte + 256 * rest)))
    ∙ ap (λ (n : ℕ). after_bits n (bit_xor r (byte + 256 * rest))) long

-- The loops

-- a table's entry takes the lowest byte of a number
pub record IsTaken (after left table whole : ℕ) : Type 0 where
  pub fewer : left < 256 ^ (8 - table)
  pub same : bit_xor after (after_bits (8 * (8 - table)) left) ≡ whole

pub byte_taken : (after left table whole k entry : ℕ) → table < 8 → k + 1 ≡ 8 - table → entry ≡ after_bits (8 * (k + 1)) (left % 256)
    → IsTaken after left table whole → IsTaken (bit_xor after entry) (left / 256) (table + 1) whole
byte_taken after left table whole k entry within which is before =
    let last : 8 - table ≡ suc (8 - (table + 1)) = omega arith in
    let power : 256 ^ (8 - table) ≡ 256 ^ (8 - (table + 1)) * 256 = ap (λ (n : ℕ). 256 ^ n) last ∙ pow-suc 256 (8 - (table + 1)) in
    let bits = 8 * (8 - (table + 1)) in
    record {
      fewer = let few = before.fewer in omega arith;
      same =
          xor_assoc after entry (after_bits bits (left / 256))
          ∙ ap (λ (x : ℕ). bit_xor after (bit_xor x (after_bits bits (left / 256)))) (is ∙ ap (λ (n : ℕ). after_bits (8 * n) (left % 256)) which)
          ∙ ap (bit_xor after) (sym (after_bits-byte (8 * (8 - table)) bits left (omega arith)))
          ∙ before.same;
    }

pub all_taken : (after left table whole : ℕ) → 8 ≤ table → IsTaken after left table whole → after ≡ whole
all_taken after left table whole done is =
    let over : 8 - table ≡ 0 = omega arith in
    let few = rw over at is.fewer in
    let none : left ≡ 0 = omega arith in
    sym (ap (bit_xor after) (after_bits-zero left ∙ none) ∙ xor_zero_r after) ∙ rw over at is.same

-- eight bytes taken as a number
pub word_taken : (r next word at : ℕ) (bytes : List ℕ) → at + 8 ≤ length bytes → ((i : ℕ) → get_or bytes i 0 < 256)
    → word ≡ le_number (take 8 (drop at bytes)) → next ≡ after_bits 64 (bit_xor r word)
    → after_bytes next (drop (at + 8) bytes) ≡ after_bytes r (drop at bytes)
word_taken r next word at bytes within small is_word is_next =
    let rest = drop at bytes in
    let front = take 8 rest in
    let long : length front ≡ 8 = omega (arith, length-take 8 rest, length-drop at bytes) in
    let number = after_bytes-number r front (λ i below.
    let read : get_or front i 0 ≡ get_or bytes (at + i) 0 = get_or-take 8 rest i 0 (omega arith) ∙ get_or-drop at bytes i 0 in
    rw read (small (at + i))) in
    ap (λ (x : ℕ). after_bytes x (drop (at + 8) bytes))
    (is_next ∙ ap (λ (x : ℕ). after_bits 64 (bit_xor r x)) is_word ∙ ap (λ (n : ℕ). after_bits (8 * n) (bit_xor r (le_number front))) (sym long) ∙ sym number)
    ∙ ap (after_bytes (after_bytes r front)) (sym (drop-drop 8 at bytes))
    ∙ sym (after_bytes-append r front (drop 8 rest))
    ∙ ap (after_bytes r) (take-append-drop 8 rest)
