-- The next record's header, and what its write leaves of a disk and of a log.
use Rattle.std.specs.Prelude.{◌≡◌, ◌⊎◌, ℕ, ◌+◌, ◌*◌, ◌≤◌, ◌<◌, ◌^◌, Bool, if◌then◌else◌, Some, None, List, length, take, Contains, Result, IfErr, OnOk}
use Rattle.xr_base.specs.Cause.{Rose}
use Rattle.xr_base.specs.declared.geometry.TheConstants.{CYCLES, LOG_SECTORS, SECTOR_BYTES, SECTORS}
use Rattle.xr_base.specs.declared.layout.TheConstants.{MAX_BODY_BYTES}
use Rattle.xr_disk.specs.Disk.{DiskView, IsAtRest}
use Rattle.xr_disk.specs.Runs.{Runs}
use Rattle.xr_record.specs.declared.head.Head.{Head}
use Rattle.xr_record.specs.declared.head.Lsn.{Lsn}
use Rattle.xr_record.specs.Packing.{Packed}
use Rattle.xr_record.specs.Record.{record_sectors, sectors_of}
use Rattle.xr_commit.specs.LogRecords.{LogRecord, record_end}
use Rattle.xr_scan.specs.FalseRecords.{log_place, record_len}
use Rattle.xr_scan.specs.LoggedEntries.{logged_items}
use Rattle.xr_scan.specs.NextId.{next_id}
use Rattle.xr_scan.specs.State.{Holds, State}
use Rattle.xr_log.specs.declared.fault.LogFault.{LogFault}
use Rattle.xr_log.specs.declared.fault.LogFault.TheVariants.{DiskFault, Down, Worn}
use Rattle.xr_log.specs.declared.held.Held.{Held}
use Rattle.xr_log.specs.Appending.{IsAppended}
use Rattle.xr_log.specs.Gathered.{Said}
use Rattle.xr_log.specs.Held.{cycle_of}
use Rattle.xr_log.specs.States.{LeavesOneOf, LeavesWithin}
use Rattle.xr_log.specs.TornWrites.{IsNextRecord, bytes_of}

-- A record of so many sectors comes right after the last one, or where it doesn't fit there before the log's end at the log's
-- beginning, in the next cycle.
abbrev pub IsPlaceAfter : Head → ℕ → Lsn → Type 0
IsPlaceAfter last sectors lsn =
    ((record_end last + sectors ≤ LOG_SECTORS) × (lsn.cycle ≡ last.lsn.cycle) × (lsn.sector ≡ record_end last))
    ⊎ ((LOG_SECTORS < record_end last + sectors) × (lsn.cycle ≡ last.lsn.cycle + 1) × (lsn.sector ≡ 0))

pub record IsPlacedAfter (last next : Head) (len : ℕ) : Type 0 where
  pub len_is : next.len ≡ len
  pub place : IsPlaceAfter last (1 + sectors_of len) next.lsn
  pub tail : (next.tail ≡ last.tail) ⊎ (next.tail ≡ next.lsn)

-- its header, where it is its own tail or has that of the last one
pub record ComesNext (last : Head) (anew : Bool) (uuid : List ℕ) (ops len : ℕ) (next : Head) : Type 0 where
  pub placed : IsPlacedAfter last next len
  pub tail_is : next.tail ≡ (if anew then next.lsn else last.tail)
  pub prev : next.prev ≡ last.lsn.sector
  pub ops_are : next.ops ≡ ops
  pub own : next.uuid ≡ uuid

-- the bytes are the sealed record with this header and this body
pub record IsLaid (head : Head) (body bytes : List ℕ) : Type 0 where
  pub are : bytes ≡ record_sectors head body

-- The disk is at rest and holds one of the states. With this record the image holds the state now and logs what is said.
pub record MayWrite (disk : DiskView) (r : LogRecord) (now : State) (said : Said) (next : ℕ) (states : List State) : Type 0 where
  pub image : List ℕ
  pub rest : IsAtRest image disk
  pub long : length image ≡ SECTOR_BYTES * SECTORS
  pub durable : State
  pub among : Contains states durable
  pub holds : Holds image durable
  pub next_is : IsNextRecord durable.uuid holds.live_in.head r
  pub adds : IsAppended image durable holds r now said.logged
  pub durable_ids : next_id (logged_items holds.logged) ≤ next
  pub ids : next_id (logged_items said.logged) ≤ next

-- these bytes are written of it at this sector of the image
pub record IsWrittenAt (at : ℕ) (bytes : List ℕ) (r : LogRecord) : Type 0 where
  pub at_is : SECTOR_BYTES * at ≡ log_place r.head.lsn.sector
  pub bytes_are : bytes ≡ bytes_of r

-- the packed record stands at the front of these sectors, with its header
pub record HasLaidNext (last : Head) (anew : Bool) (uuid : List ℕ) (packed : Packed) (next : Head) (sectors : List ℕ) : Type 0 where
  pub comes : ComesNext last anew uuid packed.ops (length packed.body) next
  pub most : length packed.body ≤ MAX_BODY_BYTES
  pub ops : packed.ops < 2 ^ 32
  pub cycle : next.lsn.cycle < CYCLES
  pub laid : IsLaid next packed.body (take (record_len next) sectors)

-- Up to now a crash has left one of the states, no later cycle and no greater id, and it does now. The disk tells what it
-- reads.
pub record RunsOver (old new : DiskView) (states : List State) (cycle next : ℕ) : Type 0 where
  pub states_run : Runs old new (LeavesOneOf states)
  pub bounds_run : Runs old new (LeavesWithin cycle next)
  pub image : List ℕ
  pub told : new.seen ≡ Some image

-- all but the record that grows, and whether the log is down, is as before
pub record OnlyPacks (old new : Held) : Type 0 where
  pub uuid : new.uuid ≡ old.uuid
  pub blocks : new.blocks ≡ old.blocks
  pub dirty : new.dirty ≡ old.dirty
  pub table : new.table ≡ old.table
  pub next : new.next ≡ old.next
  pub tid : new.tid ≡ old.tid
  pub ends_open : new.ends_open ≡ old.ends_open

-- the disk failed in this call, and the log is down
abbrev pub IsDiskFault : ℕ → ℕ → Held → LogFault → Type 0
IsDiskFault before after log (DiskFault faults) = Rose before after × (faults ≡ after) × (log.down ≡ Some faults)
IsDiskFault before after log (Worn cycle) = ⊥
IsDiskFault before after log (Down faults) = ⊥

-- a step of a call, whatever it answers
pub record IsStep {T : Type 0} (disk disk' : DiskView) (old new : Held) (result : Result T LogFault) : Type 0 where
  pub same : OnlyPacks old new
  pub faults : disk.faults ≤ disk'.faults
  pub moment : disk.moment ≤ disk'.moment
  pub cycle : cycle_of old ≤ cycle_of new
  pub fault : IfErr result (IsDiskFault disk.faults disk'.faults new)
  pub up : OnOk result (new.down ≡ None)
