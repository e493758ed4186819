-- Entering a transaction into what is held in memory, once all of it was pushed.
use Rattle.std.specs.Prelude.{◌≡◌, ◌≢◌, ◌==◌, ◌||◌, ◌+◌, ◌≤◌, ℕ, Bool, false, List, ◌++◌, All, AllPairs, Contains, get_or, length, take}
use Rattle.std.specs.List.{list_any}
use Rattle.xr_base.specs.declared.geometry.TheConstants.{BLOCK_BYTES}
use Rattle.xr_items.specs.declared.trans.Logged.{Logged as Changed}
use Rattle.xr_items.specs.declared.trans.Placed.{Placed}
use Rattle.xr_items.specs.Transactions.{TransView}
use Rattle.xr_scan.specs.declared.layout.TheConstants.{MOST_PENDING}
use Rattle.xr_scan.specs.Replaying.{AreCopies, IsStateBlock}
use Rattle.xr_scan.specs.Scanned.{copy_number, copy_of}
use Rattle.xr_log.specs.declared.held.Held.{Held}
use Rattle.xr_log.specs.declared.held.Slotted.{Slotted}
use Rattle.xr_log.specs.EndedWorks.{kept_entries}
use Rattle.xr_log.specs.PlacedWorks.{entries_of}
use Rattle.xr_log.specs.Slots.{slots_in}
use Rattle.xr_log.specs.States.{block_after}

-- blocks that have copies, with whole images of them, each once
pub record MayLay (changed : List Changed) : Type 0 where
  pub known : All (λ (l : Changed). IsStateBlock l.block) changed
  pub whole : All (λ (l : Changed). length l.image ≡ BLOCK_BYTES) changed
  pub differ : AllPairs (λ (one two : Changed). one.block ≢ two.block) changed

-- their images are laid over the copies, and they are marked as logged
pub record Lays (changed : List Changed) (old : List ℕ) (marks : List Bool) (new : List ℕ) (marks' : List Bool) : Type 0 where
  pub copies : AreCopies new marks'
  pub blocks : (block : ℕ) → IsStateBlock block → copy_of new block ≡ block_after block changed (copy_of old block)
  pub dirty : (block : ℕ) → IsStateBlock block
      → get_or marks' (copy_number block) false ≡ (get_or marks (copy_number block) false || list_any (λ (l : Changed). l.block == block) changed)

-- the works in the slots are pending and differ, and without them there is room for the new ones
pub record HasSlots (table : List Slotted) (trans : TransView) : Type 0 where
  pub pending : All (λ (slot : ℕ). Contains (slots_in table) slot) trans.done
  pub differ : AllPairs (λ (one two : ℕ). one ≢ two) trans.done
  pub most : length table + length trans.works ≤ MOST_PENDING + length trans.done

-- the table without the works that are done, and with the new ones in these slots
abbrev pub table_after : TransView → List Slotted → ℕ → Placed → List Slotted
table_after trans table next slots = kept_entries trans.done table ++ entries_of next (take slots.count slots.slots) trans.works

-- A transaction is entered: its blocks, its works and their ids. All else is as before.
pub record Enters (trans : TransView) (old new : Held) (slots : Placed) : Type 0 where
  pub lays : Lays trans.blocks old.blocks.items old.dirty.items new.blocks.items new.dirty.items
  pub count : slots.count ≡ length trans.works
  pub long : length (take slots.count slots.slots) ≡ length trans.works
  pub table : new.table.items ≡ table_after trans old.table.items old.next slots
  pub next : new.next ≡ old.next + length trans.works
  pub uuid : new.uuid ≡ old.uuid
  pub ends_open : new.ends_open ≡ old.ends_open
  pub growing : new.growing ≡ old.growing
  pub down : new.down ≡ old.down
