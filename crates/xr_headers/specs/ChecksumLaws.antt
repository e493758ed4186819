-- When bytes are a header with its checksum among them.
use Rattle.std.proofs.Common.{◌≡◌, ℕ, ◌+◌, ◌-◌, ◌<◌, ◌≤◌, List, [], length, take, drop, get_or, sym, ap, ◌∙◌, arith}
use Rattle.std.proofs.lemmas.List.{length-take-le, drop_all, ext_get_or, get_or-take}
use Rattle.xr_headers.specs.Padded.{IsZeroPadded, zero_padded}
use Rattle.xr_headers.specs.PaddedLaws.{length-zero_padded}
use Rattle.xr_headers.specs.PaddingLaws.{get_or-zero_padded, zero_padded-zero_padded}
use Rattle.xr_base.specs.Checksum.{with_crc}
use Rattle.xr_base.specs.ChecksumLaws.{take-with_crc, with_crc-with_crc, with_crc_same}

-- A header is right exactly where its checksum is, and each byte before the checksum is the wanted one.
pub right_from_tests : (at n : ℕ) (bytes wanted : List ℕ) → at + 4 ≡ n → length bytes ≡ n → bytes ≡ with_crc at bytes
    → ((k : ℕ) → k < length (take at bytes) → get_or (take at bytes) k 0 ≡ get_or wanted k 0) → bytes ≡ with_crc at (zero_padded n wanted)
right_from_tests at n bytes wanted end long right same =
    let other : List ℕ = zero_padded n wanted in
    let long_other = length-zero_padded n wanted in
    let none : drop (at + 4) bytes ≡ [] = drop_all (at + 4) bytes (omega arith) in
    let none_other : drop (at + 4) other ≡ [] = drop_all (at + 4) other (omega arith) in
    let cut = length-take-le at bytes (omega arith) in
    let front : take at bytes ≡ take at other =
    ext_get_or 0 (take at bytes) (take at other) (cut ∙ sym (length-take-le at other (omega arith)))
    (λ (k : ℕ) (below : k < length (take at bytes)).
    same k below ∙ sym (get_or-zero_padded n wanted k (omega arith)) ∙ sym (get_or-take at other k 0 (omega arith))) in
    right ∙ with_crc_same at bytes other front (none ∙ sym none_other)

pub tests_from_right : (at n : ℕ) (bytes wanted : List ℕ) → at + 4 ≡ n → bytes ≡ with_crc at (zero_padded n wanted)
    → (bytes ≡ with_crc at bytes) × ((k : ℕ) → k < length (take at bytes) → get_or (take at bytes) k 0 ≡ get_or wanted k 0)
tests_from_right at n bytes wanted end right =
    let other : List ℕ = zero_padded n wanted in
    let long_other = length-zero_padded n wanted in
    let fits : at + 4 ≤ length other = omega arith in
    let front : take at bytes ≡ take at other = ap (take at) right ∙ take-with_crc at other (omega (arith, fits)) in
    let cut : length (take at bytes) ≡ at = ap length front ∙ length-take-le at other (omega arith) in (
      right ∙ sym (ap (with_crc at) right ∙ with_crc-with_crc at other fits),
      λ (k : ℕ) (below : k < length (take at bytes)).
          ap (λ (xs : List ℕ). get_or xs k 0) front ∙ get_or-take at other k 0 (omega arith) ∙ get_or-zero_padded n wanted k (omega arith),
    )

-- a header's fields alone are compared with its block
pub wanted_is : (n at k : ℕ) (bytes fields wanted : List ℕ) → length bytes ≡ n → at + 4 ≡ n → k ≤ n → IsZeroPadded k k fields wanted
    → with_crc (length bytes - 4) (zero_padded (length bytes) wanted) ≡ with_crc at (zero_padded n fields)
wanted_is n at k bytes fields wanted long end fits laid =
    let place : n - 4 ≡ at = omega arith in
    rw (long, place, laid.is) (ap (with_crc at) (zero_padded-zero_padded k n fields (omega (arith, laid.long)) fits))
