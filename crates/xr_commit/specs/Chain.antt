-- The chain of records from the head back to its tail, and the reserve of free sectors after the head.
use Rattle.std.specs.Prelude.{◌≡◌, ◌≢◌, ◌⊎◌, ℕ, ◌+◌, ◌%◌, ◌<◌, ◌≤◌, List, [], ◌∷◌, All}
use Rattle.xr_base.specs.declared.geometry.TheConstants.{LOG_SECTORS}
use Rattle.xr_record.specs.declared.head.Head.{Head}
use Rattle.xr_record.specs.declared.head.Lsn.{Lsn}
use Rattle.xr_record.specs.declared.unsealing.SealFault.{SealFault}
use Rattle.xr_record.specs.Lsn.{lsn_number}
use Rattle.xr_record.specs.Unsealing.{IsRefusal}
use Rattle.xr_commit.specs.declared.layout.TheConstants.{RELOG_SECTORS}
use Rattle.xr_commit.specs.LogRecords.{LogRecord, IsRecordAt, StandsAt, bytes_at, record_end}

-- the record that another names as the one before it: it is older, and not older than the tail
pub record IsPreviousRecord (uuid log : List ℕ) (tail : Lsn) (named_by : Head) (r : LogRecord) : Type 0 where
  pub at : IsRecordAt uuid log named_by.prev r
  pub older : lsn_number r.head.lsn < lsn_number named_by.lsn
  pub within : lsn_number tail ≤ lsn_number r.head.lsn

-- records in log order up to the newest, each of them named by the next one
abbrev pub IsTrail : List ℕ → List ℕ → Lsn → LogRecord → LogRecord → List LogRecord → Type 0
IsTrail uuid log tail newest oldest [] = oldest ≡ newest
IsTrail uuid log tail newest oldest (next ∷ later) = IsPreviousRecord uuid log tail next.head oldest × IsTrail uuid log tail newest next later

-- the live stream's records in log order: the trail from the head back to the record whose LSN is the head's tail
pub record IsLiveTrail (uuid log : List ℕ) (head : LogRecord) (records : List LogRecord) : Type 0 where
  pub oldest : LogRecord
  pub later : List LogRecord
  pub records_are : records ≡ oldest ∷ later
  pub trail : IsTrail uuid log head.head.tail head oldest later
  pub ends : oldest.head.lsn ≡ head.head.tail

-- The trail has come to a record after the tail, and that one names no record before it that may be followed.
pub record IsLost (uuid log : List ℕ) (head last : LogRecord) : Type 0 where
  pub later : List LogRecord
  pub trail : IsTrail uuid log head.head.tail head last later
  pub goes_on : last.head.lsn ≢ head.head.tail

-- why not: it names no sector of the log, or a place that holds no record,
abbrev pub NamesNoSector : Head → Type 0
NamesNoSector last = LOG_SECTORS ≤ last.prev

pub record NamesNoRecord (log : List ℕ) (last : Head) (fault : SealFault) : Type 0 where
  pub sector : last.prev < LOG_SECTORS
  pub refused : IsRefusal last.prev (bytes_at log last.prev) fault

-- or a record of another file system, one that isn't older, or one past the tail
pub record NamesAstray (uuid log : List ℕ) (tail : Lsn) (last : Head) : Type 0 where
  pub found : LogRecord
  pub stands : StandsAt log last.prev found
  pub astray : (found.head.uuid ≢ uuid) ⊎ (lsn_number last.lsn ≤ lsn_number found.head.lsn) ⊎ (lsn_number found.head.lsn < lsn_number tail)

-- a sector of the log lies in a record
pub record LiesIn (head : Head) (sector : ℕ) : Type 0 where
  pub first : head.lsn.sector ≤ sector
  pub last : sector < record_end head

-- none of the sectors that follow the newest record, counted round the log, lies in this one
abbrev pub IsClear : Head → Head → Type 0
IsClear newest head = (i : ℕ) → i < RELOG_SECTORS → LiesIn head ((record_end newest + i) % LOG_SECTORS) → ⊥

-- nor in any live record, so that the pending intents can always be logged anew before a record that is still needed is
-- written over
abbrev pub HasReserve : Head → List Head → Type 0
HasReserve newest heads = All (IsClear newest) heads
