-- A field is read back from the block that it was written to.
use Rattle.std.proofs.Common.{◌≡◌, ℕ, zero, suc, ◌+◌, ◌*◌, ◌<◌, ◌≤◌, List, [], ◌∷◌, ◌++◌, length, take, drop, get_or, refl, sym, ap, ◌∙◌, arith}
use Rattle.std.proofs.lemmas.List.{length-append, take-take, drop-take, drop_at, drop-drop}
use Rattle.byteorder.specs.Endian.{big_bytes, big_number}
use Rattle.byteorder.specs.Numbers.{big_number-reads_back}
use Rattle.xr_base.specs.Image.{part}
use Rattle.xr_headers.specs.Headers.{AreWords}
use Rattle.xr_headers.specs.Padded.{numbers_in, words, zero_padded}
use Rattle.xr_headers.specs.PaddedLaws.{length-zero_padded}
use Rattle.xr_headers.specs.PaddingLaws.{take-zero_padded}
use Rattle.xr_base.specs.ChecksumLaws.{take-with_crc}
use Rattle.xr_base.specs.Checksum.{with_crc}

padded_at : (xs ys : List ℕ) → zero_padded (length xs) (xs ++ ys) ≡ xs
unfolding zero_padded
padded_at [] ys = refl
padded_at (x ∷ xs) ys = ap (λ (rest : List ℕ). x ∷ rest) (padded_at xs ys)

-- what stands between two parts of the fields, below the checksum
pub read_back : (seal n at k : ℕ) (fields before field after : List ℕ) → fields ≡ before ++ field ++ after → length before ≡ at → length field ≡ k
    → at + k ≤ seal → seal + 4 ≤ n → part at k (with_crc seal (zero_padded n fields)) ≡ field
read_back seal n at k fields before field after is place long below fits =
    let block : List ℕ = zero_padded n fields in
    let room : seal + 4 ≤ length block = omega (arith, length-zero_padded n fields) in
    let whole : length (before ++ field) ≡ at + k = omega (arith, length-append before field) in
    let front : take (at + k) (with_crc seal block) ≡ before ++ field =
    sym (take-take (at + k) seal (with_crc seal block) below) ∙ ap (take (at + k)) (take-with_crc seal block (omega (arith, room))) ∙ take-take (at + k) seal block below
    ∙ take-zero_padded (at + k) n fields (omega arith) ∙ ap (zero_padded (at + k)) is
    ∙ ap (λ (m : ℕ). zero_padded m (before ++ field ++ after)) (sym whole) ∙ padded_at (before ++ field) after in
    sym (drop-take at k (with_crc seal block)) ∙ ap (drop at) front ∙ drop_at before field at place

-- numbers are read back from their bytes
pub numbers_in-words : (numbers : List ℕ) → AreWords numbers → numbers_in (length numbers) (words numbers) ≡ numbers
unfolding numbers_in
numbers_in-words [] all = refl
numbers_in-words (number ∷ numbers) all =
    let rest : numbers_in (length numbers) (words numbers) ≡ numbers =
    numbers_in-words numbers (λ (i d : ℕ) (below : i < length numbers). all (suc i) d (omega arith)) in
    let first : big_number 4 (big_bytes 4 number ++ words numbers) ≡ number = big_number-reads_back 4 number (words numbers) (all 0 0 (omega arith)) in
    ap (λ (head : ℕ). head ∷ numbers_in (length numbers) (words numbers)) first ∙ ap (λ (tail : List ℕ). number ∷ tail) rest

pub numbers_read : (n : ℕ) (bytes found : List ℕ) → length found ≡ n
    → ((k : ℕ) → k < length found → get_or found k 0 ≡ big_number 4 (drop (4 * k) bytes)) → found ≡ numbers_in n bytes
unfolding numbers_in
numbers_read zero bytes [] long read = refl
numbers_read zero bytes (number ∷ found) long read = absurd (omega arith)
numbers_read (suc n) bytes [] long read = absurd (omega arith)
numbers_read (suc n) bytes (number ∷ found) long read =
    let first : number ≡ big_number 4 bytes = read 0 (omega arith) in
    let rest : found ≡ numbers_in n (drop 4 bytes) =
    numbers_read n (drop 4 bytes) found (omega arith)
    (λ (k : ℕ) (below : k < length found).
    let next : 4 * suc k ≡ 4 + 4 * k = omega arith in
    read (suc k) (omega arith) ∙ ap (λ (m : ℕ). big_number 4 (drop m bytes)) next ∙ ap (big_number 4) (sym (drop-drop (4 * k) 4 bytes))) in
    rw (first, rest) refl
