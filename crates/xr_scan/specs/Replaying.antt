-- Laying images over blocks in memory, one item after another; of no public contract.
use Rattle.std.specs.Prelude.{◌≡◌, ◌==◌, ◌||◌, ◌⊎◌, ℕ, Bool, false, List, [], ◌∷◌, ◌++◌, drop, get_or, length}
use Rattle.xr_items.specs.declared.item.Item.{Item}
use Rattle.xr_items.specs.Transactions.{IsCoreBlock}
use Rattle.xr_items.specs.Valid.{IsBufferBlock}
use Rattle.xr_record.specs.declared.entry.Entry.{Entry}
use Rattle.xr_record.specs.declared.entry.Entry.TheVariants.{Trans, Unmount}
use Rattle.xr_commit.specs.LoggedItems.{Logged, logged_regions}
use Rattle.xr_scan.specs.declared.layout.TheConstants.{STATE_BLOCKS, STATE_BYTES}
use Rattle.xr_scan.specs.LoggedEntries.{IsWholeItem, Logs, logged_items}
use Rattle.xr_scan.specs.Replayed.{is_logged, logs_block, replayed}
use Rattle.xr_scan.specs.Scanned.{copy_number, copy_of}

-- a block of a state
abbrev pub IsStateBlock : ℕ → Type 0
IsStateBlock block = IsCoreBlock block ⊎ IsBufferBlock block

-- the item logs this block and no other
pub record LogsOnly (item : Item) (block : ℕ) : Type 0 where
  pub in_state : IsStateBlock block
  pub only : (n : ℕ) → logs_block n item ≡ (block == n)

abbrev pub LogsNone : Item → Type 0
LogsNone item = (n : ℕ) → logs_block n item ≡ false

-- the copies, and the marks of those that are logged
pub record AreCopies (blocks : List ℕ) (dirty : List Bool) : Type 0 where
  pub whole : length blocks ≡ STATE_BYTES
  pub each : length dirty ≡ STATE_BLOCKS

-- these items were replayed over the copies
pub record Replays (ls : List Logged) (old : List ℕ) (marks : List Bool) (new : List ℕ) (marks' : List Bool) : Type 0 where
  pub copies : AreCopies new marks'
  pub blocks : (block : ℕ) → IsStateBlock block → copy_of new block ≡ replayed block (copy_of old block) ls
  pub dirty : (block : ℕ) → IsStateBlock block
      → get_or marks' (copy_number block) false ≡ (get_or marks (copy_number block) false || is_logged block ls)

-- the next regions of a transaction from a place on are those of this item
pub record IsNextLogged (regions : List (List ℕ)) (at : ℕ) (item : Item) (l : Logged) : Type 0 where
  pub item_is : l.item ≡ item
  pub whole : IsWholeItem l
  pub rest : List (List ℕ)
  pub here : drop at regions ≡ logged_regions l ++ rest

-- an entry with these items logs them
abbrev pub LogsEntry : Entry → List Item → List Logged → Type 0
LogsEntry Unmount items logged = logged ≡ []
LogsEntry (Trans tid regions) items logged = Logs regions logged × (items ≡ logged_items logged)

-- entries with these items log all of them, one entry after another
abbrev pub LogEach : List Entry → List (List Item) → List Logged → Type 0
LogEach [] [] logged = logged ≡ []
LogEach (entry ∷ entries) (items ∷ lists) logged =
    (first : List Logged) × (later : List Logged) × (logged ≡ first ++ later) × LogsEntry entry items first × LogEach entries lists later
LogEach _ _ logged = ⊥

-- the regions of a transaction log these items
abbrev pub LogsItems : List (List ℕ) → List Item → Type 0
LogsItems regions items = (ls : List Logged) × Logs regions ls × (items ≡ logged_items ls)
