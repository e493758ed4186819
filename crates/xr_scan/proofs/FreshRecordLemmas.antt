-- The first block of a fresh log is a sealed record, and no other record begins in a fresh log.
use Rattle.std.proofs.Common.{◌≡◌, ℕ, ◌*◌, ◌/◌, ◌%◌, ◌∙◌, List, [], ◌∷◌, ◌++◌, length, take, drop, replicate, refl, ap, arith}
use Rattle.std.proofs.lemmas.List.{append_assoc, length-append}
use Rattle.byteorder.specs.Endian.{big_bytes, little_bytes}
use Rattle.xr_base.specs.Checksum.{checksum_of, without_four, with_crc}
use Rattle.xr_base.specs.declared.geometry.TheConstants.{SECTOR_BYTES, UUID_BYTES}
use Rattle.xr_base.specs.declared.layout.TheConstants.{MAX_BODY_BYTES, RECORD_CRC_PLACE, RECORD_FORMAT}
use Rattle.xr_headers.specs.FreshImage.{first_lsn, record_opening, stamped_unmount, unmount_fields}
use Rattle.xr_headers.specs.declared.layout.TheConstants.{MISSING}
use Rattle.xr_headers.specs.Padded.{words, zero_padded}
use Rattle.xr_headers.specs.PaddedLaws.{zero_padded_is}
use Rattle.xr_record.specs.Operations.{raw_operation}
use Rattle.xr_record.specs.Record.{fields_before, moved, padded_body, record_sectors, sectors_with, zeros}
use Rattle.xr_scan.specs.CleanStreamLaws.{unmount_body}
use Rattle.xr_scan.specs.FreshStateLaws.{unmount_head}

-- the record's fields with these eight bytes as its place
fields_at : List ℕ → List ℕ → ℕ → List ℕ
fields_at lsn uuid cycle =
    record_opening cycle ++ lsn ++ lsn ++ words (0 ∷ MISSING ∷ 1 ∷ [])
    ++ replicate 256 0 ++ words (RECORD_FORMAT ∷ []) ++ uuid ++ words (MAX_BODY_BYTES ∷ [])
    ++ replicate 188 0 ++ stamped_unmount cycle

lsn_parts : (cycle : ℕ) → first_lsn cycle ≡ big_bytes 4 cycle ++ big_bytes 4 0
lsn_parts cycle =
    let a : cycle * 4294967296 / 72057594037927936 % 256 ≡ cycle / 16777216 % 256 = omega arith in
    let b : cycle * 4294967296 / 281474976710656 % 256 ≡ cycle / 65536 % 256 = omega arith in
    let c : cycle * 4294967296 / 1099511627776 % 256 ≡ cycle / 256 % 256 = omega arith in
    let d : cycle * 4294967296 / 4294967296 % 256 ≡ cycle % 256 = omega arith in
    let e : cycle * 4294967296 / 16777216 % 256 ≡ 0 = omega arith in
    let f : cycle * 4294967296 / 65536 % 256 ≡ 0 = omega arith in
    let g : cycle * 4294967296 / 256 % 256 ≡ 0 = omega arith in
    let h : cycle * 4294967296 % 256 ≡ 0 = omega arith in
    rw (a, b, c, d, e, f, g, h) refl

sectors_are : (uuid : List ℕ) (cycle sum : ℕ) → (let z : List ℕ = fields_at (big_bytes 4 cycle ++ big_bytes 4 0) uuid cycle ++ replicate 492 0 in
    take 32 z ++ little_bytes 4 sum ++ drop 36 z ≡ sectors_with sum (unmount_head uuid cycle) unmount_body)
unfolding fields_at unmount_body raw_operation zeros
sectors_are uuid cycle sum =
    let head = unmount_head uuid cycle in
    let front : List ℕ = fields_before head sum ++ (moved 1 (padded_body unmount_body) ++ zeros 252) ++ big_bytes 4 RECORD_FORMAT in
    ap (λ (xs : List ℕ). front ++ xs) (append_assoc (uuid ++ words (MAX_BODY_BYTES ∷ []) ++ replicate 188 0) (stamped_unmount cycle) (replicate 492 0))

length-fields : (uuid : List ℕ) (cycle : ℕ) → length uuid ≡ UUID_BYTES → length (unmount_fields uuid cycle) ≡ 532
unfolding unmount_fields
length-fields uuid cycle long =
    let front : List ℕ = record_opening cycle ++ first_lsn cycle ++ first_lsn cycle ++ words (0 ∷ MISSING ∷ 1 ∷ []) ++ replicate 256 0 ++ words (RECORD_FORMAT ∷ []) in
    let size : List ℕ = words (MAX_BODY_BYTES ∷ []) in
    let none : List ℕ = replicate 188 0 in
    omega (
      arith,
      long,
      length-append (front ++ uuid ++ size ++ none) (stamped_unmount cycle),
      length-append (front ++ uuid ++ size) none,
      length-append (front ++ uuid) size,
      length-append front uuid,
    )

fields_are : (uuid : List ℕ) (cycle : ℕ) → unmount_fields uuid cycle ≡ fields_at (big_bytes 4 cycle ++ big_bytes 4 0) uuid cycle
unfolding unmount_fields fields_at
fields_are uuid cycle = ap (λ (lsn : List ℕ). fields_at lsn uuid cycle) (lsn_parts cycle)

-- what the first block of a fresh log begins with is the record's sectors
pub fresh_record : (uuid : List ℕ) (cycle : ℕ) → length uuid ≡ UUID_BYTES
    → with_crc RECORD_CRC_PLACE (zero_padded (2 * SECTOR_BYTES) (unmount_fields uuid cycle)) ≡ record_sectors (unmount_head uuid cycle) unmount_body
unfolding with_crc
fresh_record uuid cycle long =
    let head = unmount_head uuid cycle in
    let z : List ℕ = fields_at (big_bytes 4 cycle ++ big_bytes 4 0) uuid cycle ++ replicate 492 0 in
    let same : zero_padded 1024 (unmount_fields uuid cycle) ≡ z =
    zero_padded_is 1024 492 (unmount_fields uuid cycle) (omega (arith, length-fields uuid cycle long)) ∙ ap (λ (xs : List ℕ). xs ++ replicate 492 0) (fields_are uuid cycle) in
    ap (with_crc 32) same ∙ sectors_are uuid cycle (checksum_of (without_four 32 z))
    ∙ ap (λ (xs : List ℕ). sectors_with (checksum_of xs) head unmount_body) (sectors_are uuid cycle 0)

pub length-unmount_body : length unmount_body ≡ 20
unfolding unmount_body raw_operation
length-unmount_body = refl
