-- One more record is written to the log, and a crash may tear its write: whole it is the new head, else the old one stays.
use Rattle.std.specs.Prelude.{◌≡◌, ◌⊎◌, ℕ, ◌*◌, ◌<◌, ◌≤◌, List, length}
use Rattle.xr_base.specs.Image.{overlaid}
use Rattle.xr_base.specs.declared.geometry.TheConstants.{LOG_SECTORS, SECTOR_BYTES, SECTORS}
use Rattle.xr_disk.specs.Crash.{Crash, Torn, at_rest}
use Rattle.xr_record.specs.declared.head.Head.{Head}
use Rattle.xr_record.specs.Lsn.{lsn_number}
use Rattle.xr_record.specs.Record.{IsGoodHead, IsStored, record_sectors}
use Rattle.xr_commit.specs.LogRecords.{IsHead, LogRecord, log_of, record_end}
use Rattle.xr_scan.specs.FalseRecords.{HasNoFalseRecord, log_place}

-- the next record: it has its place in the log, and is newer than the head
pub record IsNextRecord (uuid : List ℕ) (head next : LogRecord) : Type 0 where
  pub good : IsGoodHead next.head
  pub stored : IsStored next.head
  pub long : length next.body ≡ next.head.len
  pub own : next.head.uuid ≡ uuid
  pub within : record_end next.head ≤ LOG_SECTORS
  pub newer : lsn_number head.head.lsn < lsn_number next.head.lsn

-- two records have no sector in common
abbrev pub LieApart : Head → Head → Type 0
LieApart one two = (record_end one ≤ two.lsn.sector) ⊎ (record_end two ≤ one.lsn.sector)

-- the bytes that are written of a record
abbrev pub bytes_of : LogRecord → List ℕ
bytes_of r = record_sectors r.head r.body

-- its write over an image at rest, which a crash has torn
pub record IsTornWrite (uuid image : List ℕ) (head next : LogRecord) (c : Crash) : Type 0 where
  pub long : length image ≡ SECTOR_BYTES * SECTORS
  pub newest : IsHead uuid (log_of image) head
  pub next_is : IsNextRecord uuid head next
  pub apart : LieApart head.head next.head
  pub torn : Torn (log_place next.head.lsn.sector) (bytes_of next) (at_rest image) c
  pub sound : HasNoFalseRecord c

-- it stands whole, and is the head
pub record IsWholeWrite (uuid image : List ℕ) (next : LogRecord) (c : Crash) : Type 0 where
  pub image_is : c.image ≡ overlaid (log_place next.head.lsn.sector) (bytes_of next) image
  pub newest : IsHead uuid (log_of c.image) next
