-- Where records stand in an image, and that no two of them meet.
use Rattle.std.proofs.Common.{◌≡◌, ℕ, ◌+◌, ◌-◌, ◌*◌, ◌<◌, ◌≤◌, List, ◌++◌, length, take, drop, refl, sym, ap, subst, arith, ◌∙◌, inl, inr}
use Rattle.std.proofs.lemmas.Bool.{cases_lt}
use Rattle.std.proofs.lemmas.List.{drop-drop, take-append-drop, length-take, length-drop, take_at}
use Rattle.byteorder.specs.Endian.{big_bytes}
use Rattle.xr_base.specs.Image.{part}
use Rattle.xr_base.specs.declared.geometry.TheConstants.{LOG_SECTORS, SECTOR_BYTES, SECTORS}
use Rattle.xr_record.specs.declared.head.Head.{Head}
use Rattle.xr_record.specs.Record.{IsGoodHead, IsStored, sectors_of}
use Rattle.xr_record.specs.RecordLaws.{length-record_sectors, no_magic_at_stamp}
use Rattle.xr_record.specs.SealedRecordLaws.{sealed_head, sealed_magic, sealed_place}
use Rattle.xr_record.specs.Unsealing.{HasStamps}
use Rattle.xr_commit.specs.declared.layout.TheConstants.{LOG_BYTES}
use Rattle.xr_commit.specs.LogRecords.{LogRecord, StandsAt, bytes_at, log_of, record_end}
use Rattle.xr_scan.specs.FalseRecords.{log_place, own_sectors, record_len}
use Rattle.xr_log.specs.TornWrites.{bytes_of}
use Rattle.xr_log.proofs.OutsideLemmas.{part_in, take_less}

pub length-bytes_of : (r : LogRecord) → length r.body ≡ r.head.len → IsGoodHead r.head → IsStored r.head → length (bytes_of r) ≡ record_len r.head
length-bytes_of r long good stored =
    length-record_sectors r.head r.body good stored long ∙ ap (λ (len : ℕ). SECTOR_BYTES + SECTOR_BYTES * sectors_of len) long

pub length-log : (image : List ℕ) → length image ≡ SECTOR_BYTES * SECTORS → length (log_of image) ≡ LOG_BYTES
length-log image long = let e = length-take LOG_BYTES (drop 32768 image) in let f = length-drop 32768 image in omega (arith, e, f, long)

-- the parts of the log are parts of the image
in_image : (s k : ℕ) (image : List ℕ) → SECTOR_BYTES * s + k ≤ LOG_BYTES → part (SECTOR_BYTES * s) k (log_of image) ≡ part (log_place s) k image
in_image s k image fits = part_in (SECTOR_BYTES * s) k 32768 LOG_BYTES image fits

-- where a record stands, its sectors do
pub sectors_stand : (image : List ℕ) (s : ℕ) (r : LogRecord) → StandsAt (log_of image) s r → record_end r.head ≤ LOG_SECTORS → own_sectors image r.head ≡ bytes_of r
sectors_stand image s r stands within =
    let at = r.head.lsn.sector in
    let n = record_len r.head in
    let long = length-bytes_of r stands.sealed.length_is stands.sealed.good stands.sealed.stored in
    let most = stands.sealed.good.fits in
    sym (in_image at n image (omega (arith, within)))
    ∙ sym (take_less n 33280 (drop (SECTOR_BYTES * at) (log_of image)) (omega (arith, most)))
    ∙ ap (take n) (ap (bytes_at (log_of image)) stands.here ∙ stands.sealed.bytes_are)
    ∙ take_at (bytes_of r) stands.sealed.rest n long

pub stands_by_sectors : (image : List ℕ) (r : LogRecord) → IsGoodHead r.head → IsStored r.head → length r.body ≡ r.head.len → record_end r.head ≤ LOG_SECTORS
    → own_sectors image r.head ≡ bytes_of r → StandsAt (log_of image) r.head.lsn.sector r
stands_by_sectors image r good stored long within own =
    let at = r.head.lsn.sector in
    let n = record_len r.head in
    let bytes = bytes_at (log_of image) at in
    let most = good.fits in
    let front : take n bytes ≡ bytes_of r =
    take_less n 33280 (drop (SECTOR_BYTES * at) (log_of image)) (omega (arith, most)) ∙ in_image at n image (omega (arith, within)) ∙ own in
    record {
      sealed = record {
        good = good;
        stored = stored;
        length_is = long;
        rest = drop n bytes;
        bytes_are = sym (take-append-drop n bytes) ∙ ap (λ (xs : List ℕ). xs ++ drop n bytes) front;
      };
      here = refl;
    }

-- no record begins within another: its sector there would begin with a cycle, and the magic is none
pub none_within : (log : List ℕ) (s t : ℕ) (r q : LogRecord) → StandsAt log s r → StandsAt log t q → s < t → record_end r.head ≤ t
none_within log s t r q one two less = elim (cases_lt t (record_end r.head)) [
  | inl inside ↦ absurd (begins inside)
  | inr after ↦ after
] where
  begins : t < record_end r.head → ⊥
  begins inside =
      let bytes = bytes_at log s in
      let there = bytes_at log t in
      let i : ℕ = t - (s + 1) in
      let most = one.sealed.good.fits in
      let here = one.here in
      let same = sealed_head bytes r.head r.body one.sealed in
      let stamps : HasStamps r.head.lsn.cycle (sectors_of r.head.len) (drop SECTOR_BYTES bytes) =
      subst (λ (h : Head). HasStamps h.lsn.cycle (sectors_of h.len) (drop SECTOR_BYTES bytes)) same (sealed_place s bytes r.head r.body one.sealed one.here).placed.stamps in
      let stamp : take 4 (drop (SECTOR_BYTES * i) (drop SECTOR_BYTES bytes)) ≡ big_bytes 4 r.head.lsn.cycle = stamps i (omega (arith, here, inside, less)) in
      let place : take 4 (drop (SECTOR_BYTES * t) log) ≡ take 4 (drop (SECTOR_BYTES * i) (drop SECTOR_BYTES bytes)) =
      ap (λ (m : ℕ). take 4 (drop m log)) (let e : SECTOR_BYTES * t ≡ SECTOR_BYTES * s + (SECTOR_BYTES + SECTOR_BYTES * i) = omega (arith, less) in e)
      ∙ sym (part_in (SECTOR_BYTES + SECTOR_BYTES * i) 4 (SECTOR_BYTES * s) 33280 log (omega (arith, here, inside, most, less)))
      ∙ ap (take 4) (sym (drop-drop (SECTOR_BYTES * i) SECTOR_BYTES bytes)) in
      no_magic_at_stamp there r.head.lsn.cycle one.sealed.good.cycle (take_less 4 33280 (drop (SECTOR_BYTES * t) log) (omega arith) ∙ place ∙ stamp)
      (sealed_magic there q.head q.body two.sealed)
