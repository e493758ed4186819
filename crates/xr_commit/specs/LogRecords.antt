-- The records that stand in the log, and which of them is the head.
use Rattle.std.specs.Prelude.{◌≡◌, ℕ, ◌+◌, ◌*◌, ◌/◌, ◌<◌, ◌≤◌, ◌⊎◌, List, All, length, map, Option, Some, None}
use Rattle.xr_base.specs.Image.{block_of, part}
use Rattle.xr_base.specs.declared.geometry.TheConstants.{BLOCK_BYTES, FIRST_LOG_BLOCK, SECTOR_BYTES, UUID_BYTES, BLOCK_SECTORS}
use Rattle.xr_headers.specs.Headers.{super_block}
use Rattle.xr_record.specs.declared.head.Head.{Head}
use Rattle.xr_record.specs.Lsn.{lsn_number}
use Rattle.xr_record.specs.Record.{IsSealed, sectors_of}
use Rattle.xr_commit.specs.declared.layout.TheConstants.{LOG_BYTES, MOST_RECORD_BYTES}

-- the image begins with the superblock of this identifier
pub record HasSuper (image uuid : List ℕ) : Type 0 where
  pub whole : length uuid ≡ UUID_BYTES
  pub block : block_of image 0 ≡ super_block (record { uuid = uuid })

-- the bytes of an image's log
abbrev pub log_of : List ℕ → List ℕ
log_of image = part (BLOCK_BYTES * FIRST_LOG_BLOCK) LOG_BYTES image

-- The bytes in which a record that begins at a sector of the log lies. It lies whole before the log's end, so they stop
-- there.
abbrev pub bytes_at : List ℕ → ℕ → List ℕ
bytes_at log sector = part (SECTOR_BYTES * sector) MOST_RECORD_BYTES log

-- the image block that holds a sector of the log
abbrev pub log_block_of : ℕ → ℕ
log_block_of sector = FIRST_LOG_BLOCK + sector / BLOCK_SECTORS

-- a record: its header, and its body with the first word of each sector put back
pub record LogRecord : Type 0 where
  pub head : Head
  pub body : List ℕ

-- a sealed record stands at a sector and names that sector
pub record StandsAt (log : List ℕ) (sector : ℕ) (r : LogRecord) : Type 0 where
  pub sealed : IsSealed (bytes_at log sector) r.head r.body
  pub here : r.head.lsn.sector ≡ sector

-- and it has the superblock's identifier
pub record IsRecordAt (uuid log : List ℕ) (sector : ℕ) (r : LogRecord) : Type 0 where
  pub stands : StandsAt log sector r
  pub own : r.head.uuid ≡ uuid

-- no such record stands in the log
abbrev pub HasNoRecord : List ℕ → List ℕ → Type 0
HasNoRecord uuid log = (sector : ℕ) (r : LogRecord) → IsRecordAt uuid log sector r → ⊥

-- the record with the greatest LSN of all that stand in the log
pub record IsHead (uuid log : List ℕ) (r : LogRecord) : Type 0 where
  pub at : IsRecordAt uuid log r.head.lsn.sector r
  pub newest : (sector : ℕ) (other : LogRecord) → IsRecordAt uuid log sector other → lsn_number other.head.lsn ≤ lsn_number r.head.lsn

-- the sector after a record's last one
abbrev pub record_end : Head → ℕ
record_end head = head.lsn.sector + 1 + sectors_of head.len

-- the block in which a record begins
abbrev pub home_of : Head → ℕ
home_of head = log_block_of head.lsn.sector

-- of a record its header alone
abbrev pub heads_of : List LogRecord → List Head
heads_of records = map (λ r. r.head) records

pub record IsHeaderAt (uuid log : List ℕ) (sector : ℕ) (head : Head) : Type 0 where
  pub body : List ℕ
  pub at : IsRecordAt uuid log sector (record { head = head; body = body })

pub record IsNewest (uuid log : List ℕ) (head : Head) : Type 0 where
  pub body : List ℕ
  pub newest : IsHead uuid log (record { head = head; body = body })

-- these are the headers of records in the log
pub record AreIn (log : List ℕ) (heads : List Head) (records : List LogRecord) : Type 0 where
  pub each : All (λ (r : LogRecord). StandsAt log r.head.lsn.sector r) records
  pub heads_are : heads ≡ heads_of records

abbrev pub AreHeadersOf : List ℕ → List Head → Type 0
AreHeadersOf log heads = (records : List LogRecord) × AreIn log heads records

-- this is so of the records that have these headers
abbrev pub OfRecords : List ℕ → List Head → (List LogRecord → Type 0) → Type 0
OfRecords log heads P = (records : List LogRecord) → AreIn log heads records → P records

-- the newer of two records, where there are any
abbrev pub IsNewer : Option Head → Option Head → Option Head → Type 0
IsNewer None found result = result ≡ found
IsNewer (Some best) None result = result ≡ Some best
IsNewer (Some best) (Some found) result =
    ((lsn_number best.lsn < lsn_number found.lsn) × (result ≡ Some found)) ⊎ ((lsn_number found.lsn ≤ lsn_number best.lsn) × (result ≡ Some best))
