-- The items that a live stream logs: that there are some and no others, and what is known of them and of its records.
use Rattle.std.specs.Prelude.{◌≡◌, ◌<◌, ◌≤◌, ℕ, List, All, AllPairs, length}
use Rattle.xr_base.specs.declared.geometry.TheConstants.{LOG_SECTORS}
use Rattle.xr_record.specs.declared.entry.Entry.{Entry}
use Rattle.xr_record.specs.declared.head.Head.{Head}
use Rattle.xr_record.specs.Record.{IsGoodHead}
use Rattle.xr_commit.specs.declared.layout.TheConstants.{LOG_BYTES}
use Rattle.xr_commit.specs.declared.pending.Pending.{Pending}
use Rattle.xr_commit.specs.GoodItems.{ItemsAreGood}
use Rattle.xr_commit.specs.LiveStream.{IsLiveIn}
use Rattle.xr_commit.specs.LogRecords.{record_end}
use Rattle.xr_commit.specs.LoggedItems.{Logged}
use Rattle.xr_commit.specs.Pending.{pending}
use Rattle.xr_scan.specs.LoggedEntries.{LogAll, logged_items}

abbrev pub IsOneLogging : Type 0
IsOneLogging = (entries : List Entry) (one two : List Logged) → LogAll entries one → LogAll entries two → one ≡ two

abbrev pub LiveLogsItems : Type 0
LiveLogsItems = (uuid log : List ℕ) (heads : List Head) (entries : List Entry) → IsLiveIn uuid log heads entries → (logged : List Logged) × LogAll entries logged

-- What follows an item is as long as it has to be, a core is that of its file, and ids of intents rise.
abbrev pub LoggedAreGood : Type 0
LoggedAreGood = (uuid log : List ℕ) (heads : List Head) (entries : List Entry) (logged : List Logged) → IsLiveIn uuid log heads entries → LogAll entries logged
    → ItemsAreGood uuid 0 logged

-- so pending works stand in the order of their ids
abbrev pub PendingRise : Type 0
PendingRise = (uuid : List ℕ) (logged : List Logged) → ItemsAreGood uuid 0 logged → AllPairs (λ (one two : Pending). one.id < two.id) (pending (logged_items logged))

-- a record's header is one that a record may have, and the record lies whole in the log
pub record IsPlacedHead (head : Head) : Type 0 where
  pub good : IsGoodHead head
  pub within : record_end head ≤ LOG_SECTORS

abbrev pub LiveIsPlaced : Type 0
LiveIsPlaced = (uuid log : List ℕ) (heads : List Head) (entries : List Entry) → length log ≡ LOG_BYTES → IsLiveIn uuid log heads entries → All IsPlacedHead heads
