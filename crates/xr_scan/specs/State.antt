-- A state: what an image's log and its blocks stand for together, whatever is packed where and under whichever ids.
use Rattle.std.specs.Prelude.{◌≡◌, ◌⊎◌, ℕ, List, map}
use Rattle.xr_base.specs.Image.{block_of}
use Rattle.xr_items.specs.declared.work.Work.{Work}
use Rattle.xr_items.specs.Transactions.{IsCoreBlock}
use Rattle.xr_items.specs.Valid.{IsBufferBlock}
use Rattle.xr_record.specs.declared.entry.Entry.{Entry}
use Rattle.xr_record.specs.declared.head.Head.{Head}
use Rattle.xr_commit.specs.declared.pending.Pending.{Pending}
use Rattle.xr_commit.specs.LiveStream.{IsLiveIn}
use Rattle.xr_commit.specs.LogRecords.{HasSuper, log_of}
use Rattle.xr_commit.specs.LoggedItems.{Logged}
use Rattle.xr_commit.specs.Pending.{pending}
use Rattle.xr_scan.specs.LoggedEntries.{LogAll, logged_items}
use Rattle.xr_scan.specs.Replayed.{replayed}

-- the file system's identifier, the bytes of its blocks, and the pending works in the order of their ids
pub record State : Type 0 where
  pub uuid : List ℕ
  pub blocks : ℕ → List ℕ
  pub works : List Work

-- The blocks of a state: those that a transaction may change, which are cores and the blocks that are logged whole. Of any
-- other number a state says nothing.
abbrev pub HasBlock : State → ℕ → Type 0
HasBlock state block = IsCoreBlock block ⊎ IsBufferBlock block

pub record IsSameState (one two : State) : Type 0 where
  pub uuid : one.uuid ≡ two.uuid
  pub blocks : (block : ℕ) → HasBlock one block → one.blocks block ≡ two.blocks block
  pub works : one.works ≡ two.works

abbrev pub works_of : List Pending → List Work
works_of works = map (λ (p : Pending). p.work) works

-- The image has a live stream. Each block is its last image in the stream's transactions, else the image's own; and the works
-- are those of the intents that no later item ends.
pub record Holds (image : List ℕ) (state : State) : Type 0 where
  pub superblock : HasSuper image state.uuid
  pub heads : List Head
  pub entries : List Entry
  pub live_in : IsLiveIn state.uuid (log_of image) heads entries
  pub logged : List Logged
  pub log_all : LogAll entries logged
  pub blocks : (block : ℕ) → HasBlock state block → state.blocks block ≡ replayed block (block_of image block) logged
  pub works : state.works ≡ works_of (pending (logged_items logged))
