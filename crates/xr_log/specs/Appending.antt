-- What one more record adds to what an image holds.
use Rattle.std.specs.Prelude.{◌≡◌, ◌⊎◌, ℕ, ◌+◌, ◌≤◌, List, [], ◌∷◌, ◌++◌}
use Rattle.xr_base.specs.Image.{block_of}
use Rattle.xr_base.specs.declared.geometry.TheConstants.{LOG_SECTORS}
use Rattle.xr_record.specs.declared.entry.Entry.{Entry}
use Rattle.xr_record.specs.declared.head.Head.{Head}
use Rattle.xr_commit.specs.Entries.{HasEntries}
use Rattle.xr_commit.specs.GoodItems.{EntriesAreGood}
use Rattle.xr_commit.specs.LoggedItems.{Logged}
use Rattle.xr_commit.specs.LogRecords.{LogRecord}
use Rattle.xr_commit.specs.Operations.{KeepsUnmounts}
use Rattle.xr_commit.specs.Pending.{pending}
use Rattle.xr_commit.specs.declared.layout.TheConstants.{RELOG_SECTORS}
use Rattle.xr_scan.specs.LoggedEntries.{LogAll, logged_items}
use Rattle.xr_scan.specs.Replayed.{replayed}
use Rattle.xr_scan.specs.State.{HasBlock, Holds, State, works_of}
use Rattle.xr_log.specs.Positions.{LeavesReserve, end_position, log_position}

-- It goes on from the live records, with their tail; or it is its own tail, and none of them is needed any more.
abbrev pub GoesOnFrom : LogRecord → List LogRecord → Head → List LogRecord → Type 0
GoesOnFrom head records next needed = ((needed ≡ records) × (next.tail ≡ head.head.tail)) ⊎ ((needed ≡ []) × (next.tail ≡ next.lsn))

-- Its place. By the sectors passed it comes after the newest record. It meets no live one: it ends less than a round after the
-- tail, or within the sectors that are kept for relogging. And it leaves these after it.
pub record IsPlacedNext (newest : LogRecord) (records : List LogRecord) (needed : List LogRecord) (next : Head) : Type 0 where
  pub goes_on : GoesOnFrom newest records next needed
  pub prev : next.prev ≡ newest.head.lsn.sector
  pub after : end_position newest.head ≤ log_position next.lsn
  pub fits : (end_position next ≤ log_position newest.head.tail + LOG_SECTORS) ⊎ (end_position next ≤ end_position newest.head + RELOG_SECTORS)
  pub leaves : LeavesReserve next

-- with it the image holds this state
pub record IsAppended (image : List ℕ) (state : State) (old : Holds image state) (next : LogRecord) (after : State) (logged : List Logged) : Type 0 where
  pub needed : List LogRecord
  pub place : IsPlacedNext old.live_in.head old.live_in.records needed next.head
  pub unmounts : KeepsUnmounts next
  pub entries : List Entry
  pub stream : HasEntries (needed ++ next ∷ []) entries
  pub last : ℕ
  pub items : EntriesAreGood state.uuid 0 entries last
  pub log_all : LogAll entries logged
  pub uuid : after.uuid ≡ state.uuid
  pub blocks : (block : ℕ) → HasBlock after block → after.blocks block ≡ replayed block (block_of image block) logged
  pub works : after.works ≡ works_of (pending (logged_items logged))

-- The image holds a state under this head, these are its live records, and their transactions log these items.
pub record HoldsUnder (image : List ℕ) (state : State) (head : LogRecord) (records : List LogRecord) (logged : List Logged) : Type 0 where
  pub holds : Holds image state
  pub head_is : holds.live_in.head ≡ head
  pub records_are : holds.live_in.records ≡ records
  pub logged_is : holds.logged ≡ logged
