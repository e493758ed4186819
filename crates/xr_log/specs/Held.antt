-- What contracts see of a log.
use Rattle.std.specs.Prelude.{◌≡◌, ◌≢◌, ◌↔◌, ℕ, ◌<◌, ◌&&◌, nat_lt, Bool, true, false, Option, Some, None, List, [], ◌∷◌, ◌++◌, length, map, get_or, ◌==◌, if◌then◌else◌}
use Rattle.xr_disk.specs.Crash.{Crash}
use Rattle.xr_disk.specs.Disk.{DiskView}
use Rattle.xr_record.specs.Stream.{Between}
use Rattle.xr_commit.specs.Pending.{pending}
use Rattle.xr_scan.specs.FalseRecords.{HasNoFalseRecord}
use Rattle.xr_scan.specs.LoggedEntries.{logged_items}
use Rattle.xr_scan.specs.Replayed.{is_logged}
use Rattle.xr_commit.specs.LogEnds.{IsCleanRecord}
use Rattle.xr_scan.specs.Scanned.{copy_number, copy_of}
use Rattle.xr_scan.specs.State.{HasBlock, Holds, State}
use Rattle.xr_log.specs.declared.held.Held.{Held}
use Rattle.xr_log.specs.declared.held.Log.{Log}
use Rattle.xr_log.specs.declared.held.Slotted.{Slotted}
use Rattle.xr_log.specs.declared.layout.TheConstants.{COMMIT_SECTORS, WORN_CYCLE, WORN_ID}
use Rattle.xr_log.specs.Gathered.{Said}
use Rattle.xr_log.specs.KeepsNow.{KeepsNow}
use Rattle.xr_log.specs.Positions.{LeavesSectors}
use Rattle.xr_log.specs.Slots.{pending_in}
use Rattle.xr_log.specs.States.{LeavesOneOf, LeavesWithin, Placing, works_in}

abbrev pub disk_of : {D : Type 0} → Log D → D
disk_of log = log.disk

abbrev pub held_of : {D : Type 0} → Log D → Held
held_of log = log.held

-- the pending works with their slots, in their order
abbrev pub placings_of : Held → List Placing
placings_of log = map (λ (s : Slotted). (let p : Placing = record { slot = s.slot; work = s.work } in p)) log.table.items

-- the committed state
abbrev pub current : Held → State
current log = record {
  uuid = log.uuid;
  blocks = copy_of log.blocks.items;
  works = works_in (placings_of log);
}

-- the greatest cycle that a record of the log may have so far
abbrev pub cycle_of : Held → ℕ
cycle_of log = log.growing.last.lsn.cycle

-- a log is worn from some cycle on, and from some id on
abbrev pub worn_of : ℕ → ℕ → Option ℕ
worn_of cycle next = if nat_lt cycle WORN_CYCLE then (if nat_lt next WORN_ID then None else Some WORN_CYCLE) else Some cycle

-- the log was resumed from a clean image, and nothing was committed or written since
abbrev pub is_untouched : Held → Bool
is_untouched log = log.growing.anew && length log.growing.packer.body == 0

-- What is in memory is in step with the disk, where the log isn't down. The stream ends within a transaction only where it
-- was found so; ids rise; the pending works and the logged blocks are known; and where nothing is packed, the image holds the
-- current state.
pub record IsInStep (disk : DiskView) (log : Held) (states : List State) : Type 0 where
  pub said : Said
  pub keeps : KeepsNow disk log.growing (current log) said log.next states
  pub ends : (log.ends_open ≡ true) ↔ (said.o ≢ Between)
  pub rises : said.last < log.next
  pub pending_are : pending_in log.table.items ≡ pending (logged_items said.logged)
  pub dirty : (block : ℕ) → HasBlock (current log) block → get_or log.dirty.items (copy_number block) false ≡ is_logged block said.logged
  pub clean : is_untouched log ≡ true → IsCleanRecord keeps.holds.live_in.head
  pub written : length log.growing.packer.body ≡ 0 → keeps.durable ≡ current log

-- The states, of which the current one is the last, are all that a crash may leave now. It leaves no cycle and no id that the
-- log hasn't come to. The disk tells what it reads. Users need `ends` and `now` alone; a list may begin earlier than it must.
pub record HasStates (disk : DiskView) (log : Held) (states : List State) : Type 0 where
  pub older : List State
  pub ends : states ≡ older ++ current log ∷ []
  pub now : (c : Crash) → disk.may_leave c → LeavesOneOf states c
  pub within : (c : Crash) → disk.may_leave c → LeavesWithin (cycle_of log) log.next c
  pub image : List ℕ
  pub told : disk.seen ≡ Some image
  pub rest : log.down ≡ None → IsInStep disk log states

-- a crash does leave the current state
pub record LeavesCurrent (disk : DiskView) (log : Held) : Type 0 where
  pub crash : Crash
  pub may : disk.may_leave crash
  pub sound : HasNoFalseRecord crash
  pub holds : Holds crash.image (current log)

-- a transaction fits into the log as it is
pub record HasCommitRoom (log : Held) : Type 0 where
  pub whole : log.ends_open ≡ false
  pub sectors : LeavesSectors COMMIT_SECTORS log.growing.last
