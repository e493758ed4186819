-- The premise on torn records: none passes its checksum by chance.
use Rattle.std.specs.Prelude.{◌≡◌, ◌⊎◌, ℕ, ◌+◌, ◌*◌, ◌<◌, List, length, Contains}
use Rattle.xr_base.specs.Image.{overlaid, part}
use Rattle.xr_base.specs.declared.geometry.TheConstants.{BLOCK_BYTES, FIRST_LOG_BLOCK, SECTOR_BYTES}
use Rattle.xr_disk.specs.Crash.{Crash, Write}
use Rattle.xr_record.specs.declared.head.Head.{Head}
use Rattle.xr_record.specs.Record.{sectors_of}
use Rattle.xr_commit.specs.LogRecords.{LogRecord, StandsAt, log_of}

-- where a sector of the log begins in the image, and how many bytes a record's own sectors have
abbrev pub log_place : ℕ → ℕ
log_place sector = BLOCK_BYTES * FIRST_LOG_BLOCK + SECTOR_BYTES * sector

abbrev pub record_len : Head → ℕ
record_len head = SECTOR_BYTES + SECTOR_BYTES * sectors_of head.len

-- the bytes of an image in a record's own sectors
abbrev pub own_sectors : List ℕ → Head → List ℕ
own_sectors image head = part (log_place head.lsn.sector) (record_len head) image

-- a write has some byte in a record's own sectors
pub record WritesInto (w : Write) (head : Head) : Type 0 where
  pub begins : w.at < log_place head.lsn.sector + record_len head
  pub ends : log_place head.lsn.sector < w.at + length w.bytes

-- A record that stands where a write in flight wrote is what stands there with that write wholly done, or with it not done at
-- all. Only its own sectors are compared. What follows them is no part of the record, so of more sectors this would be false
-- of honest disks: a whole old record may stand in front of the torn remains of a write.
abbrev pub HasNoFalseRecord : Crash → Type 0
HasNoFalseRecord c = (w : Write) (r : LogRecord) → Contains c.in_flight w → StandsAt (log_of c.image) r.head.lsn.sector r → WritesInto w r.head
    → (own_sectors c.image r.head ≡ own_sectors (overlaid w.at w.bytes c.image) r.head)
    ⊎ (own_sectors c.image r.head ≡ own_sectors (overlaid w.at w.before c.image) r.head)
