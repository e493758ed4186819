-- How long padded bytes, and bytes with their checksum among them, are, and what they are made of.
use Rattle.std.proofs.Common.{◌≡◌, ℕ, zero, suc, ◌+◌, ◌*◌, ◌≤◌, List, [], ◌∷◌, ◌++◌, length, replicate, refl, ap, ◌∙◌, arith}
use Rattle.xr_headers.specs.Padded.{words, zero_padded}
use Rattle.xr_base.specs.Checksum.{with_crc}
use Rattle.xr_base.specs.ChecksumLaws.{length-with_crc}

pub length-zero_padded : (n : ℕ) (bytes : List ℕ) → length (zero_padded n bytes) ≡ n
unfolding zero_padded
length-zero_padded zero bytes = refl
length-zero_padded (suc n) [] = ap suc (length-zero_padded n [])
length-zero_padded (suc n) (byte ∷ bytes) = ap suc (length-zero_padded n bytes)

pub zero_padded_none : (n : ℕ) → zero_padded n [] ≡ replicate n 0
unfolding zero_padded
zero_padded_none zero = refl
zero_padded_none (suc n) = ap (λ (rest : List ℕ). 0 ∷ rest) (zero_padded_none n)

-- bytes that fit stand in front of m zeros
pub zero_padded_is : (n m : ℕ) (bytes : List ℕ) → length bytes + m ≡ n → zero_padded n bytes ≡ bytes ++ replicate m 0
unfolding zero_padded
zero_padded_is n m [] fits = let same : n ≡ m = omega arith in rw same (zero_padded_none m)
zero_padded_is zero m (byte ∷ bytes) fits = absurd (omega arith)
zero_padded_is (suc n) m (byte ∷ bytes) fits = ap (λ (rest : List ℕ). byte ∷ rest) (zero_padded_is n m bytes (omega arith))

pub length-with_crc_padded : (at n : ℕ) (bytes : List ℕ) → at + 4 ≤ n → length (with_crc at (zero_padded n bytes)) ≡ n
length-with_crc_padded at n bytes fits = length-with_crc at (zero_padded n bytes) (omega (arith, length-zero_padded n bytes)) ∙ length-zero_padded n bytes

pub length-words : (numbers : List ℕ) → length (words numbers) ≡ 4 * length numbers
length-words [] = refl
length-words (number ∷ numbers) = omega (arith, length-words numbers)
