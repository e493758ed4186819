-- A fresh log: its first sectors are a sealed record, and no other begins there.
use Rattle.std.proofs.Common.{◌≡◌, ℕ, ◌+◌, ◌-◌, ◌*◌, ◌/◌, ◌%◌, ◌<◌, ◌≤◌, ◌∙◌, List, [], ◌++◌, length, take, drop, replicate, refl, sym, ap, subst, inl, inr, arith}
use Rattle.std.proofs.Math.Seq.{drop-append-add}
use Rattle.std.proofs.lemmas.Bool.{cases_lt, cond-false, cond-true, lt-ltb, ne_eqb}
use Rattle.std.proofs.lemmas.Grind.{common_steps}
use Rattle.std.proofs.lemmas.List.{append-nil, drop-drop, drop-replicate, drop-take, take-append-drop, take-replicate}
use Rattle.byteorder.specs.Endian.{big_bytes}
use Rattle.xr_base.specs.Image.{block_of, part}
use Rattle.xr_base.specs.declared.geometry.TheConstants.{CYCLES, SECTOR_BYTES, UUID_BYTES}
use Rattle.xr_base.specs.declared.layout.TheConstants.{RECORD_CRC_PLACE}
use Rattle.xr_headers.specs.FreshImage.{fresh_block_of, fresh_image, unmount_fields}
use Rattle.xr_headers.specs.FreshImageLaws.{block_of-fresh_image}
use Rattle.xr_headers.specs.Padded.{zero_padded}
use Rattle.xr_headers.specs.PaddedLaws.{length-with_crc_padded, zero_padded_is}
use Rattle.xr_headers.specs.PaddingLaws.{take-zero_padded}
use Rattle.xr_record.specs.declared.head.Head.{Head}
use Rattle.xr_record.specs.Record.{IsSealed}
use Rattle.xr_record.specs.RecordLaws.{no_magic_at_stamp}
use Rattle.xr_record.specs.SealedRecordLaws.{sealed_head, sealed_magic, sealed_place}
use Rattle.xr_commit.specs.LogRecords.{LogRecord, StandsAt, bytes_at, log_of}
use Rattle.xr_scan.specs.FreshStateLaws.{unmount_head}
use Rattle.xr_scan.proofs.FreshRecordLemmas.{fresh_record, length-unmount_body}
use Rattle.xr_scan.specs.CleanStreamLaws.{unmount_body}
use Rattle.xr_base.specs.Checksum.{with_crc}

-- Parts of parts

shorter : (n m : ℕ) (xs : List ℕ) → n ≤ m → take n (take m xs) ≡ take n xs
shorter n m xs less = grind (arith, common_steps)

inner : (at n from m : ℕ) (image : List ℕ) → at + n ≤ m → part at n (part from m image) ≡ part (from + at) n image
inner at n from m image fits =
    let e : m ≡ at + (m - at) = omega (arith, fits) in
    ap (λ (k : ℕ). take n (drop at (take k (drop from image)))) e ∙ ap (take n) (drop-take at (m - at) (drop from image)) ∙ shorter n (m - at) (drop at (drop from image)) (omega (arith, fits))
    ∙ ap (take n) (drop-drop at from image)

-- the first bytes at a sector of the log, in the block that holds it
in_block : (image : List ℕ) (sector n at k : ℕ) → 32768 + 512 * sector ≡ 4096 * n + at → at + k ≤ 4096 → sector < 4096 → k ≤ 1024 → 512 * sector + k ≤ 2097152
    → take k (bytes_at (log_of image) sector) ≡ part at k (block_of image n)
in_block image sector n at k place fits within few room =
    shorter k 33280 (drop (512 * sector) (log_of image)) (omega (arith, few)) ∙ inner (512 * sector) k 32768 2097152 image room
    ∙ ap (λ (p : ℕ). part p k image) place ∙ sym (inner at k (4096 * n) 4096 image fits)

-- zeros behind what stands in front of them
behind : (at k : ℕ) (bytes : List ℕ) → length bytes ≤ at → at + k ≤ 4096 → part at k (zero_padded 4096 bytes) ≡ replicate k 0
behind at k bytes past fits =
    let m : ℕ = 4096 - length bytes in
    let skip : ℕ = at - length bytes in
    let e : at ≡ length bytes + skip = omega (arith, past) in
    ap (part at k) (zero_padded_is 4096 m bytes (omega (arith, past, fits))) ∙ ap (λ (p : ℕ). take k (drop p (bytes ++ replicate m 0))) e
    ∙ ap (take k) (drop-append-add bytes (replicate m 0) skip ∙ drop-replicate skip m 0) ∙ take-replicate k (m - skip) 0 (omega (arith, past, fits))

-- The blocks of a fresh log

abbrev record_of : List ℕ → ℕ → List ℕ
record_of uuid cycle = with_crc RECORD_CRC_PLACE (zero_padded (2 * SECTOR_BYTES) (unmount_fields uuid cycle))

length-record : (uuid : List ℕ) (cycle : ℕ) → length (record_of uuid cycle) ≡ 1024
length-record uuid cycle = length-with_crc_padded 32 1024 (unmount_fields uuid cycle) (omega arith)

first_block : (uuid : List ℕ) (cycle : ℕ) → block_of (fresh_image uuid cycle) 8 ≡ zero_padded 4096 (record_of uuid cycle)
unfolding fresh_block_of
first_block uuid cycle = block_of-fresh_image uuid cycle 8 (omega arith)

later_blocks : (uuid : List ℕ) (cycle n : ℕ) → 8 < n → n < 520 → block_of (fresh_image uuid cycle) n ≡ zero_padded 4096 []
unfolding fresh_block_of
later_blocks uuid cycle n above below =
    block_of-fresh_image uuid cycle n (omega (arith, below)) ∙ cond-true _ _ _ (lt-ltb n 520 below) ∙ cond-false _ _ _ (ne_eqb n 0 (λ e. omega (arith, e, above)))
    ∙ cond-false _ _ _ (ne_eqb n 8 (λ e. omega (arith, e, above)))

abbrev fresh_log : List ℕ → ℕ → List ℕ
fresh_log uuid cycle = log_of (fresh_image uuid cycle)

front_is : (uuid : List ℕ) (cycle : ℕ) → take 1024 (bytes_at (fresh_log uuid cycle) 0) ≡ record_of uuid cycle
front_is uuid cycle =
    in_block (fresh_image uuid cycle) 0 8 0 1024 refl (omega arith) (omega arith) (omega arith) (omega arith)
    ∙ ap (take 1024) (first_block uuid cycle) ∙ take-zero_padded 1024 4096 (record_of uuid cycle) (omega arith)
    ∙ zero_padded_is 1024 0 (record_of uuid cycle) (omega (arith, length-record uuid cycle)) ∙ append-nil (record_of uuid cycle)

pub fresh_sealed : (uuid : List ℕ) (cycle : ℕ) → length uuid ≡ UUID_BYTES → 0 < cycle → cycle < CYCLES
    → IsSealed (bytes_at (fresh_log uuid cycle) 0) (unmount_head uuid cycle) unmount_body
fresh_sealed uuid cycle long some small = record {
  good = record { some = omega arith; fits = omega arith; sector = omega arith; round = some; cycle = small; tail = omega arith };
  stored = record { prev = omega arith; ops = omega arith; round = omega (arith, small); sector = omega arith; uuid = long };
  length_is = length-unmount_body;
  rest = drop 1024 (bytes_at (fresh_log uuid cycle) 0);
  bytes_are = sym (take-append-drop 1024 (bytes_at (fresh_log uuid cycle) 0))
      ∙ ap (λ (xs : List ℕ). xs ++ drop 1024 (bytes_at (fresh_log uuid cycle) 0)) (front_is uuid cycle ∙ fresh_record uuid cycle long);
}

-- each later sector begins with the stamp of the record's body, or with zeros
record IsStamped (bytes : List ℕ) : Type 0 where
  pub stamp : ℕ
  pub small : stamp < CYCLES
  pub begins : take 4 bytes ≡ big_bytes 4 stamp

body_stamp : (uuid : List ℕ) (cycle : ℕ) → length uuid ≡ UUID_BYTES → 0 < cycle → cycle < CYCLES → take 4 (drop 512 (bytes_at (fresh_log uuid cycle) 0)) ≡ big_bytes 4 cycle
body_stamp uuid cycle long some small =
    let bytes = bytes_at (fresh_log uuid cycle) 0 in
    let s = fresh_sealed uuid cycle long some small in
    let h = sealed_head bytes (unmount_head uuid cycle) unmount_body s in
    (sealed_place 0 bytes (unmount_head uuid cycle) unmount_body s refl).placed.stamps 0 (subst (λ (head : Head). 0 < (head.len + 511) / 512) (sym h) (omega arith))
    ∙ ap (λ (head : Head). big_bytes 4 head.lsn.cycle) h

stamped_at : (uuid : List ℕ) (cycle sector : ℕ) → length uuid ≡ UUID_BYTES → 0 < cycle → cycle < CYCLES → 0 < sector → sector < 4096
    → IsStamped (bytes_at (fresh_log uuid cycle) sector)
stamped_at uuid cycle sector long some small later within = elim (cases_lt sector 8) [
  | inr above ↦ record {
    stamp = 0;
    small = omega arith;
    begins = in_block (fresh_image uuid cycle) sector (8 + sector / 8) (512 * (sector % 8)) 4 (omega arith) (omega arith) within (omega arith) (omega (arith, within))
        ∙ ap (part (512 * (sector % 8)) 4) (later_blocks uuid cycle (8 + sector / 8) (omega (arith, above)) (omega (arith, within)))
        ∙ behind (512 * (sector % 8)) 4 [] (omega arith) (omega arith);
  }
  | inl below ↦ elim (cases_lt sector 2) [
    | inr above ↦ record {
      stamp = 0;
      small = omega arith;
      begins = in_block (fresh_image uuid cycle) sector 8 (512 * sector) 4 (omega arith) (omega (arith, below)) within (omega arith) (omega (arith, within))
          ∙ ap (part (512 * sector) 4) (first_block uuid cycle) ∙ behind (512 * sector) 4 (record_of uuid cycle) (omega (arith, above, length-record uuid cycle)) (omega (arith, below));
    }
    | inl one ↦ (let e : sector ≡ 1 = omega (arith, one, later) in record {
      stamp = cycle;
      small = small;
      begins = in_block (fresh_image uuid cycle) sector 8 512 4 (omega (arith, e)) (omega arith) within (omega arith) (omega (arith, within))
          ∙ sym (in_block_at uuid cycle) ∙ body_stamp uuid cycle long some small;
    })
  ]
] where
  in_block_at : (u : List ℕ) (c : ℕ) → take 4 (drop 512 (bytes_at (fresh_log u c) 0)) ≡ part 512 4 (block_of (fresh_image u c) 8)
  in_block_at u c =
      inner 512 4 0 33280 (log_of (fresh_image u c)) (omega arith) ∙ inner 512 4 32768 2097152 (fresh_image u c) (omega arith) ∙ sym (inner 512 4 32768 4096 (fresh_image u c) (omega arith))

-- so no record begins there
pub none_later : (uuid : List ℕ) (cycle sector : ℕ) (r : LogRecord) → length uuid ≡ UUID_BYTES → 0 < cycle → cycle < CYCLES → 0 < sector
    → StandsAt (fresh_log uuid cycle) sector r → ⊥
none_later uuid cycle sector r long some small later stands =
    let e = stands.here in
    let h = stands.sealed.good.sector in
    let at = stamped_at uuid cycle sector long some small later (omega (arith, e, h)) in
    no_magic_at_stamp (bytes_at (fresh_log uuid cycle) sector) at.stamp at.small at.begins (sealed_magic (bytes_at (fresh_log uuid cycle) sector) r.head r.body stands.sealed)
