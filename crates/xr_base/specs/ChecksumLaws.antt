-- How remainders go on over bits and bytes, and the parts of bytes with their checksum among them.
use Rattle.std.specs.Prelude.{◌≡◌, ℕ, zero, suc, ◌+◌, ◌<◌, ◌≤◌, List, [], ◌∷◌, ◌++◌, take, drop, get_or, length, refl}
use Rattle.std.proofs.Common.{◌∙◌, ap, sym, arith}
use Rattle.std.proofs.Math.Seq.{drop-cons}
use Rattle.std.proofs.lemmas.List.{append_assoc, length-take-le, take_at}
use Rattle.byteorder.specs.Numbers.{length-bytes_low_first}
use Rattle.xr_base.specs.Checksum.{after_bit, after_bits, after_byte, after_bytes, checksum_of, sum_bytes, with_crc, without_four}
use Rattle.xr_base.specs.Image.{overlaid, part}
use Rattle.xr_base.specs.ImageLaws.{drop_overlaid, laid_again, length-overlaid, part-overlaid}

pub after_bits-suc : (n r : ℕ) → after_bits (suc n) r ≡ after_bits n (after_bit r)
unfolding after_bits
after_bits-suc n r = refl

pub after_bits-zero : (r : ℕ) → after_bits zero r ≡ r
unfolding after_bits
after_bits-zero r = refl

pub after_bytes-none : (r : ℕ) → after_bytes r [] ≡ r
unfolding after_bytes
after_bytes-none r = refl

pub after_bytes-cons : (r byte : ℕ) (bytes : List ℕ) → after_bytes r (byte ∷ bytes) ≡ after_bytes (after_byte r byte) bytes
unfolding after_bytes
after_bytes-cons r byte bytes = refl

pub after_bytes-append : (r : ℕ) (xs ys : List ℕ) → after_bytes r (xs ++ ys) ≡ after_bytes (after_bytes r xs) ys
unfolding after_bytes
after_bytes-append r [] ys = refl
after_bytes-append r (x ∷ xs) ys = after_bytes-append (after_byte r x) xs ys

pub after_bytes-drop : (r i : ℕ) (bytes : List ℕ) → i < length bytes
    → after_bytes r (drop i bytes) ≡ after_bytes (after_byte r (get_or bytes i 0)) (drop (suc i) bytes)
after_bytes-drop r i bytes within = ap (after_bytes r) (drop-cons bytes i 0 within) ∙ after_bytes-cons r (get_or bytes i 0) (drop (suc i) bytes)

pub length-sum_bytes : (at : ℕ) (bytes : List ℕ) → length (sum_bytes at bytes) ≡ 4
length-sum_bytes at bytes = length-bytes_low_first 0 4 (checksum_of (without_four at bytes))

pub length-with_crc : (at : ℕ) (bytes : List ℕ) → at + 4 ≤ length bytes → length (with_crc at bytes) ≡ length bytes
unfolding with_crc
length-with_crc at bytes fits = length-overlaid at (sum_bytes at bytes) bytes (omega (arith, fits, length-sum_bytes at bytes))

-- a checksum stands over all bytes but its own
pub with_crc_same : (at : ℕ) (xs ys : List ℕ) → take at xs ≡ take at ys → drop (at + 4) xs ≡ drop (at + 4) ys → with_crc at xs ≡ with_crc at ys
unfolding with_crc
with_crc_same at xs ys before after = rw (before, after) refl

-- what stands before a checksum, and after it
pub take-with_crc : (at : ℕ) (bytes : List ℕ) → at ≤ length bytes → take at (with_crc at bytes) ≡ take at bytes
unfolding with_crc
take-with_crc at bytes fits =
    let sum : List ℕ = sum_bytes at bytes in
    ap (take at) (append_assoc (take at bytes) sum (drop (at + length sum) bytes)) ∙ take_at (take at bytes) _ at (length-take-le at bytes fits)

pub drop-with_crc : (at k : ℕ) (bytes : List ℕ) → at + 4 ≤ k → at + 4 ≤ length bytes → drop k (with_crc at bytes) ≡ drop k bytes
unfolding with_crc
drop-with_crc at k bytes after fits =
    let long = length-sum_bytes at bytes in
    drop_overlaid at k (sum_bytes at bytes) bytes (omega (arith, long, after)) (omega (arith, long, fits))

pub with_crc-with_crc : (at : ℕ) (bytes : List ℕ) → at + 4 ≤ length bytes → with_crc at (with_crc at bytes) ≡ with_crc at bytes
with_crc-with_crc at bytes fits =
    with_crc_same at (with_crc at bytes) bytes (take-with_crc at bytes (omega (arith, fits))) (drop-with_crc at (at + 4) bytes (omega arith) fits)

-- bytes have their checksum among them exactly where its four bytes are those of all others
pub with_crc_from_sum : (at : ℕ) (bytes : List ℕ) → at + 4 ≤ length bytes → part at 4 bytes ≡ sum_bytes at bytes → bytes ≡ with_crc at bytes
unfolding with_crc
with_crc_from_sum at bytes fits right = sym (laid_again at 4 bytes fits) ∙ ap (λ (xs : List ℕ). overlaid at xs bytes) right

pub sum_from_with_crc : (at : ℕ) (bytes : List ℕ) → at + 4 ≤ length bytes → bytes ≡ with_crc at bytes → part at 4 bytes ≡ sum_bytes at bytes
unfolding with_crc
sum_from_with_crc at bytes fits right =
    ap (part at 4) right ∙ part-overlaid at 4 (sum_bytes at bytes) bytes (length-sum_bytes at bytes) fits
