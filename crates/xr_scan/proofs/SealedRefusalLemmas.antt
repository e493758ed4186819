-- Where a record stands no rule of records refuses, and elsewhere one rule does.
use Rattle.std.proofs.Common.{◌≡◌, ℕ, zero, suc, ◌+◌, ◌*◌, ◌<◌, ◌/◌, ◌%◌, ◌^◌, ◌∙◌, Bool, true, false, cond, eqb, List, [], ◌∷◌, ◌++◌, take, drop, replicate, bit_xor, sym, ap, arith}
use Rattle.std.proofs.lemmas.List.{get_or-drop}
use Rattle.std.proofs.lemmas.Nat.{xor_of_32}
use Rattle.xr_base.specs.Checksum.{after_bit, after_bits, after_byte, after_bytes, all_ones, checksum_of, polynomial, without_four}
use Rattle.xr_base.specs.Fields.{AreBytes, be32_at}
use Rattle.xr_record.specs.declared.head.Head.{Head}
use Rattle.xr_record.specs.declared.unsealing.SealFault.{SealFault}
use Rattle.xr_record.specs.declared.unsealing.SealFault.TheVariants.{Magic, Version, Length, Checksum, Place}
use Rattle.xr_record.specs.HoldLaws.{small_append}
use Rattle.xr_record.specs.Record.{IsSealed, sectors_of}
use Rattle.xr_record.specs.SealedRecordLaws.{sealed_checksum, sealed_length, sealed_magic, sealed_place, sealed_version}
use Rattle.xr_record.specs.Unsealing.{IsRefusal}

-- a checksum of bytes has 32 bits
bit_fits : (r : ℕ) → r < 2 ^ 32 → after_bit r < 2 ^ 32
bit_fits r small = elim (eqb (r % 2) 1) as (λ (b : Bool). cond b (bit_xor (r / 2) polynomial) (r / 2) < 2 ^ 32) [
  | true ↦ xor_of_32 (r / 2) polynomial (omega arith) (omega arith)
  | false ↦ omega arith
]

bits_fit : (n r : ℕ) → r < 2 ^ 32 → after_bits n r < 2 ^ 32
unfolding after_bits
bits_fit zero r small = small
bits_fit (suc n) r small = bits_fit n (after_bit r) (bit_fits r small)

bytes_fit : (r : ℕ) (bytes : List ℕ) → AreBytes bytes → r < 2 ^ 32 → after_bytes r bytes < 2 ^ 32
unfolding after_bytes
bytes_fit r [] all small = small
bytes_fit r (byte ∷ bytes) all small =
    bytes_fit (after_byte r byte) bytes (λ i. all (suc i)) (bits_fit 8 (bit_xor r byte) (xor_of_32 r byte small (let h = all 0 in omega (arith, h))))

checksum_fits : (bytes : List ℕ) → AreBytes bytes → checksum_of bytes < 2 ^ 32
checksum_fits bytes all = xor_of_32 (after_bytes all_ones bytes) all_ones (bytes_fit all_ones bytes all (omega arith)) (omega arith)

none_small : AreBytes []
none_small zero = omega arith
none_small (suc k) = omega arith

pub take_small : (n : ℕ) (xs : List ℕ) → AreBytes xs → AreBytes (take n xs)
take_small zero xs all k = none_small k
take_small (suc n) [] all k = none_small k
take_small (suc n) (x ∷ xs) all zero = all 0
take_small (suc n) (x ∷ xs) all (suc k) = take_small n xs (λ i. all (suc i)) k

pub drop_small : (n : ℕ) (xs : List ℕ) → AreBytes xs → AreBytes (drop n xs)
drop_small n xs all k = rw (get_or-drop n xs k 0) (all (n + k))

zeros_small : AreBytes (replicate 4 0)
zeros_small zero = omega arith
zeros_small (suc zero) = omega arith
zeros_small (suc (suc zero)) = omega arith
zeros_small (suc (suc (suc zero))) = omega arith
zeros_small (suc (suc (suc (suc k)))) = omega arith

without_small : (at : ℕ) (xs : List ℕ) → AreBytes xs → AreBytes (without_four at xs)
without_small at xs all =
    small_append (take at xs ++ replicate 4 0) (drop (at + 4) xs) (small_append (take at xs) (replicate 4 0) (take_small at xs all) zeros_small) (drop_small (at + 4) xs all)

pub sealed_taken : (sector : ℕ) (bytes : List ℕ) (head : Head) (body : List ℕ) (fault : SealFault) → AreBytes bytes → IsSealed bytes head body → head.lsn.sector ≡ sector
    → IsRefusal sector bytes fault → ⊥
sealed_taken sector bytes head body (Magic at) all s here refused = refused.1 (sealed_magic bytes head body s)
sealed_taken sector bytes head body (Version at) all s here refused = refused.2 (sealed_version bytes head body s)
sealed_taken sector bytes head body (Length at) all s here refused = refused.3 (sealed_length bytes head body s)
sealed_taken sector bytes head body (Checksum at) all s here refused =
    refused.4 (sealed_checksum bytes head body s
    (checksum_fits _ (without_small 32 (take (512 + 512 * sectors_of (be32_at bytes 12)) bytes) (take_small (512 + 512 * sectors_of (be32_at bytes 12)) bytes all))))
sealed_taken sector bytes head body (Place at) all s here refused = refused.5 (sealed_place sector bytes head body s here)

-- a place is refused in one way
pub refused_one_way : (sector : ℕ) (bytes : List ℕ) (one two : SealFault) → IsRefusal sector bytes one → IsRefusal sector bytes two → one ≡ two
refused_one_way sector bytes (Magic p) (Magic q) a b = ap Magic (a.0 ∙ sym b.0)
refused_one_way sector bytes (Magic p) (Version q) a b = absurd (a.1 b.1)
refused_one_way sector bytes (Magic p) (Length q) a b = absurd (a.1 b.1)
refused_one_way sector bytes (Magic p) (Checksum q) a b = absurd (a.1 b.1)
refused_one_way sector bytes (Magic p) (Place q) a b = absurd (a.1 b.1)
refused_one_way sector bytes (Version p) (Magic q) a b = absurd (b.1 a.1)
refused_one_way sector bytes (Version p) (Version q) a b = ap Version (a.0 ∙ sym b.0)
refused_one_way sector bytes (Version p) (Length q) a b = absurd (a.2 b.2)
refused_one_way sector bytes (Version p) (Checksum q) a b = absurd (a.2 b.2)
refused_one_way sector bytes (Version p) (Place q) a b = absurd (a.2 b.2)
refused_one_way sector bytes (Length p) (Magic q) a b = absurd (b.1 a.1)
refused_one_way sector bytes (Length p) (Version q) a b = absurd (b.2 a.2)
refused_one_way sector bytes (Length p) (Length q) a b = ap Length (a.0 ∙ sym b.0)
refused_one_way sector bytes (Length p) (Checksum q) a b = absurd (a.3 b.3)
refused_one_way sector bytes (Length p) (Place q) a b = absurd (a.3 b.3)
refused_one_way sector bytes (Checksum p) (Magic q) a b = absurd (b.1 a.1)
refused_one_way sector bytes (Checksum p) (Version q) a b = absurd (b.2 a.2)
refused_one_way sector bytes (Checksum p) (Length q) a b = absurd (b.3 a.3)
refused_one_way sector bytes (Checksum p) (Checksum q) a b = ap Checksum (a.0 ∙ sym b.0)
refused_one_way sector bytes (Checksum p) (Place q) a b = absurd (a.4 b.4)
refused_one_way sector bytes (Place p) (Magic q) a b = absurd (b.1 a.1)
refused_one_way sector bytes (Place p) (Version q) a b = absurd (b.2 a.2)
refused_one_way sector bytes (Place p) (Length q) a b = absurd (b.3 a.3)
refused_one_way sector bytes (Place p) (Checksum q) a b = absurd (b.4 a.4)
refused_one_way sector bytes (Place p) (Place q) a b = ap Place (a.0 ∙ sym b.0)
