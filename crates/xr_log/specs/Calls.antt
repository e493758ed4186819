-- What the calls of a log need and do.
use Rattle.std.specs.Prelude.{◌≡◌, ◌≢◌, ◌⊎◌, ℕ, ◌+◌, ◌-◌, ◌/◌, ◌≤◌, ◌<◌, Some, None, List, ◌++◌, length, All, AllPairs, Contains, take, Result, Err, IfErr, OnOk}
use Rattle.xr_base.specs.Cause.{Rose}
use Rattle.xr_base.specs.declared.geometry.TheConstants.{CYCLES, FILE_BLOCKS, FIRST_FILE_BLOCK, FIRST_INODE, LOG_SECTORS}
use Rattle.xr_disk.specs.Disk.{DiskView}
use Rattle.xr_headers.specs.declared.layout.TheConstants.{CORE_BYTES}
use Rattle.xr_items.specs.declared.layout.TheConstants.{IDS}
use Rattle.xr_items.specs.declared.trans.Logged.{Logged}
use Rattle.xr_items.specs.declared.trans.Placed.{Placed}
use Rattle.xr_items.specs.Transactions.{IsCoreBlock, TransView}
use Rattle.xr_record.specs.declared.head.Head.{Head}
use Rattle.xr_commit.specs.GoodItems.{IsCoreOf}
use Rattle.xr_commit.specs.LogRecords.{record_end}
use Rattle.xr_scan.specs.declared.layout.TheConstants.{MOST_PENDING}
use Rattle.xr_scan.specs.State.{IsSameState}
use Rattle.xr_log.specs.declared.fault.LogFault.{LogFault}
use Rattle.xr_log.specs.declared.fault.LogFault.TheVariants.{DiskFault, Down, Worn}
use Rattle.xr_log.specs.declared.held.Held.{Held}
use Rattle.xr_log.specs.declared.layout.TheConstants.{CYCLES_A_CALL, IDS_A_CALL}
use Rattle.xr_log.specs.Held.{current, cycle_of, placings_of}
use Rattle.xr_log.specs.Slots.{AreApartSlots}
use Rattle.xr_log.specs.States.{Placing, placed_in, slots_of, state_after, without_slots}

-- the core of a file is one of this file system
abbrev pub IsOwnCore : List ℕ → Logged → Type 0
IsOwnCore uuid l = IsCoreBlock l.block → IsCoreOf uuid (FIRST_INODE + (l.block - FIRST_FILE_BLOCK) / FILE_BLOCKS) (take CORE_BYTES l.image)

-- what a commit needs: its done slots are pending and differ, its cores are of this file system, and there are slots for its
-- works
pub record MayCommit (uuid : List ℕ) (placings : List Placing) (trans : TransView) : Type 0 where
  pub pending : All (λ (slot : ℕ). Contains (slots_of placings) slot) trans.done
  pub differ : AllPairs (λ (one two : ℕ). one ≢ two) trans.done
  pub own : All (IsOwnCore uuid) trans.blocks
  pub most : length placings + length trans.works ≤ MOST_PENDING + length trans.done

-- The transaction is committed. Its new works have these slots, and no two pending works have one.
pub record Commits (trans : TransView) (old new : Held) (slots : Placed) : Type 0 where
  pub count : slots.count ≡ length trans.works
  pub placings : placings_of new ≡ without_slots trans.done (placings_of old) ++ placed_in (take slots.count slots.slots) trans.works
  pub apart : AreApartSlots (slots_of (placings_of new))
  pub state : IsSameState (current new) (state_after trans (placings_of old) (current old))

-- nothing is committed: the blocks, the works and their slots are as before
pub record IsUncommitted (old new : Held) : Type 0 where
  pub placings : placings_of new ≡ placings_of old
  pub state : current new ≡ current old

-- after this record so many sectors more would need the cycle that none may have
abbrev pub NeedsLastCycle : Head → ℕ → Type 0
NeedsLastCycle last sectors = (last.lsn.cycle + 1 ≡ CYCLES) × (LOG_SECTORS < record_end last + sectors)

-- Records of so many sectors would need the cycle that none may have, or so many intents an id that none may have.
abbrev pub WearsOut : Held → ℕ → ℕ → Type 0
WearsOut log sectors ids = NeedsLastCycle log.growing.last sectors ⊎ ((0 < ids) × (IDS < log.next + ids))

-- why a call is refused that writes so many sectors and gives so many ids, by the counts of the disk's faults
abbrev pub HasLogCause : ℕ → ℕ → ℕ → ℕ → Held → Held → LogFault → Type 0
HasLogCause sectors ids before after old new (DiskFault faults) = (old.down ≡ None) × Rose before after × (faults ≡ after) × (new.down ≡ Some faults)
HasLogCause sectors ids before after old new (Worn cycle) = (cycle ≡ CYCLES) × WearsOut old sectors ids × (old.down ≡ None) × (new ≡ old)
HasLogCause sectors ids before after old new (Down faults) = (old.down ≡ Some faults) × (new ≡ old)

-- What each call keeps that writes so many sectors and gives so many ids, whatever it answers.
pub record IsLogCall {T : Type 0} (sectors ids : ℕ) (disk disk' : DiskView) (old new : Held) (result : Result T LogFault) : Type 0 where
  pub uuid : new.uuid ≡ old.uuid
  pub cycles : (cycle_of old ≤ cycle_of new) × (cycle_of new ≤ cycle_of old + CYCLES_A_CALL)
  pub next : (old.next ≤ new.next) × (new.next ≤ old.next + IDS_A_CALL)
  pub faults : disk.faults ≤ disk'.faults
  pub moment : disk.moment ≤ disk'.moment
  pub cause : IfErr result (HasLogCause sectors ids disk.faults disk'.faults old new)
  pub fresh : OnOk result (WearsOut old sectors ids → ⊥)
  pub down : (faults : ℕ) → old.down ≡ Some faults → result ≡ Err (Down faults)
  pub up : OnOk result (new.down ≡ None)

-- why a call is refused that hands the disk back
abbrev pub HasEndCause : ℕ → ℕ → ℕ → ℕ → Held → LogFault → Type 0
HasEndCause sectors ids before after log (DiskFault faults) = (log.down ≡ None) × Rose before after × (faults ≡ after)
HasEndCause sectors ids before after log (Worn cycle) = (cycle ≡ CYCLES) × WearsOut log sectors ids × (log.down ≡ None)
HasEndCause sectors ids before after log (Down faults) = log.down ≡ Some faults

pub record IsEndCall (sectors ids : ℕ) (disk disk' : DiskView) (log : Held) (result : Result (Unit {0}) LogFault) : Type 0 where
  pub faults : disk.faults ≤ disk'.faults
  pub moment : disk.moment ≤ disk'.moment
  pub cause : IfErr result (HasEndCause sectors ids disk.faults disk'.faults log)
  pub fresh : OnOk result (WearsOut log sectors ids → ⊥)
  pub down : (faults : ℕ) → log.down ≡ Some faults → result ≡ Err (Down faults)
