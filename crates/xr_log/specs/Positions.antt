-- Where records lie along the log, counted over all its rounds.
use Rattle.std.specs.Prelude.{ℕ, ◌+◌, ◌*◌, ◌<◌, ◌≤◌, ◌==◌, if◌then◌else◌, length}
use Rattle.xr_base.specs.declared.geometry.TheConstants.{LOG_SECTORS}
use Rattle.xr_record.specs.declared.head.Head.{Head}
use Rattle.xr_record.specs.declared.head.Lsn.{Lsn}
use Rattle.xr_record.specs.Packing.{Packed}
use Rattle.xr_record.specs.Record.{sectors_of}
use Rattle.xr_commit.specs.declared.layout.TheConstants.{RELOG_SECTORS}
use Rattle.xr_commit.specs.LogRecords.{record_end}
use Rattle.xr_log.specs.declared.layout.TheConstants.{GROWING_SECTORS}

-- a place in the log, by the sectors that were passed to come to it
abbrev pub log_position : Lsn → ℕ
log_position lsn = LOG_SECTORS * lsn.cycle + lsn.sector

abbrev pub end_position : Head → ℕ
end_position head = LOG_SECTORS * head.lsn.cycle + record_end head

-- from the tail to so many sectors after the record there is less than a whole round
abbrev pub LeavesSectors : ℕ → Head → Type 0
LeavesSectors sectors head = end_position head + sectors ≤ log_position head.tail + LOG_SECTORS

-- with the room for relogging left
abbrev pub LeavesReserve : Head → Type 0
LeavesReserve head = LeavesSectors RELOG_SECTORS head

-- the sectors of a record with this body, which isn't written where it is empty
abbrev pub packed_sectors : Packed → ℕ
packed_sectors packed = if length packed.body == 0 then 0 else (1 + sectors_of (length packed.body))

-- where a record grows after this one, it has its room
abbrev pub HasRoomToGrow : Head → Packed → Type 0
HasRoomToGrow last packed = 0 < length packed.body → LeavesSectors GROWING_SECTORS last
