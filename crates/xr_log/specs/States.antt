-- The states that a crash may leave of a log, and what a transaction makes of a state.
use Rattle.std.specs.Prelude.{ℕ, ◌≤◌, List, [], ◌∷◌, ◌++◌, map, not, ◌==◌, Contains, if◌then◌else◌}
use Rattle.std.specs.List.{filter, list_any}
use Rattle.xr_disk.specs.Crash.{Crash}
use Rattle.xr_items.specs.declared.trans.Logged.{Logged}
use Rattle.xr_items.specs.declared.work.Work.{Work}
use Rattle.xr_items.specs.Transactions.{TransView}
use Rattle.xr_scan.specs.FalseRecords.{HasNoFalseRecord}
use Rattle.xr_scan.specs.LoggedEntries.{logged_items}
use Rattle.xr_scan.specs.NextId.{next_id}
use Rattle.xr_scan.specs.State.{Holds, State}

-- a crash leaves one of these states, as far as no torn record passes its checksum
abbrev pub LeavesOneOf : List State → Crash → Type 0
LeavesOneOf states c = HasNoFalseRecord c → (state : State) × Contains states state × Holds c.image state

-- the image's newest record has no later cycle, and its items name only ids below this one
pub record IsWithinBounds (cycle next : ℕ) (image : List ℕ) : Type 0 where
  pub state : State
  pub holds : Holds image state
  pub cycles : holds.live_in.head.head.lsn.cycle ≤ cycle
  pub ids : next_id (logged_items holds.logged) ≤ next

abbrev pub LeavesWithin : ℕ → ℕ → Crash → Type 0
LeavesWithin cycle next c = HasNoFalseRecord c → IsWithinBounds cycle next c.image

-- a pending work, and the slot by which callers name it
pub record Placing : Type 0 where
  pub slot : ℕ
  pub work : Work

abbrev pub slots_of : List Placing → List ℕ
slots_of placings = map (λ (p : Placing). p.slot) placings

abbrev pub works_in : List Placing → List Work
works_in placings = map (λ (p : Placing). p.work) placings

-- those that stay where the works in these slots are done
abbrev pub without_slots : List ℕ → List Placing → List Placing
without_slots done placings = filter (λ (p : Placing). not (list_any (λ (slot : ℕ). slot == p.slot) done)) placings

-- new works in their slots
abbrev pub placed_in : List ℕ → List Work → List Placing
placed_in (slot ∷ slots) (work ∷ works) = record { slot = slot; work = work } ∷ placed_in slots works
placed_in _ _ = []

-- a block after a transaction that changes these
abbrev pub block_after : ℕ → List Logged → List ℕ → List ℕ
block_after block [] bytes = bytes
block_after block (l ∷ ls) bytes = if l.block == block then l.image else block_after block ls bytes

-- the state after a transaction, where these works were pending before
abbrev pub state_after : TransView → List Placing → State → State
state_after trans placings state = record {
  uuid = state.uuid;
  blocks = λ (block : ℕ). block_after block trans.blocks (state.blocks block);
  works = works_in (without_slots trans.done placings) ++ trans.works;
}
