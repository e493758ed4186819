-- What a scan has read before it replays it, and what it makes of that; of no public contract.
use Rattle.std.specs.Prelude.{◌≡◌, ◌≢◌, ◌↔◌, ℕ, ◌<◌, ◌≤◌, true, false, Option, List, get_or, length}
use Rattle.xr_base.specs.declared.geometry.TheConstants.{FIRST_LOG_BLOCK}
use Rattle.xr_disk.specs.Seen.{WasSeen}
use Rattle.xr_record.specs.declared.entry.Entry.{Entry}
use Rattle.xr_record.specs.declared.head.Head.{Head}
use Rattle.xr_record.specs.Stream.{Between}
use Rattle.xr_commit.specs.declared.fault.ScanFault.{ScanFault}
use Rattle.xr_commit.specs.declared.fault.ScanFault.TheVariants.{Debt}
use Rattle.xr_commit.specs.ItemsOf.{items_in}
use Rattle.xr_commit.specs.LogEnds.{IsCleanRecord}
use Rattle.xr_commit.specs.LiveStream.{EndsOpen, IsLiveIn}
use Rattle.xr_commit.specs.LoggedItems.{Logged}
use Rattle.xr_commit.specs.LogRecords.{HasSuper, log_of}
use Rattle.xr_commit.specs.Pending.{joined_items, pending}
use Rattle.xr_commit.specs.declared.layout.TheConstants.{LOG_BYTES}
use Rattle.xr_scan.specs.declared.layout.TheConstants.{MOST_PENDING}
use Rattle.xr_scan.specs.declared.scanned.Scanned.{Scanned}
use Rattle.xr_scan.specs.declared.scanning.LiveItems.{LiveItems}
use Rattle.xr_scan.specs.LoggedEntries.{LogAll, logged_items}
use Rattle.xr_scan.specs.NextId.{next_id}
use Rattle.xr_scan.specs.Replayed.{is_logged, replayed}
use Rattle.xr_scan.specs.Replaying.{IsStateBlock, LogEach}
use Rattle.xr_scan.specs.Scanned.{copy_number, copy_of}

-- the items of the entries are those that the entries log, and few of their works are pending
pub record HasItems (found : LiveItems) : Type 0 where
  pub each : (logged : List Logged) → LogAll found.live.entries.items logged → LogEach found.live.entries.items (items_in found.items.items) logged
  pub joined : (logged : List Logged) → LogAll found.live.entries.items logged → joined_items found.items.items ≡ logged_items logged
  pub pending_are : found.pending.items ≡ pending (joined_items found.items.items)
  pub few : length found.pending.items ≤ MOST_PENDING

-- too many works are pending
pub record OwesTooMuch (entries : List Entry) (fault : ScanFault) : Type 0 where
  pub named : fault ≡ Debt FIRST_LOG_BLOCK
  pub many : (logged : List Logged) → LogAll entries logged → MOST_PENDING < length (pending (logged_items logged))

-- the log has this live stream with these items
pub record IsFoundIn (log : List ℕ) (found : LiveItems) : Type 0 where
  pub long : length log ≡ LOG_BYTES
  pub live_in : IsLiveIn found.live.uuid log found.live.heads.items found.live.entries.items
  pub ends : EndsOpen found.live.uuid log found.live
  pub has : HasItems found

-- such a log was read, and where the disk tells its image, it is that image's
pub record WasFound (seen : Option (List ℕ)) (found : LiveItems) : Type 0 where
  pub log : List ℕ
  pub found_in : IsFoundIn log found
  pub of_image : WasSeen seen (λ image. HasSuper image found.live.uuid × (log ≡ log_of image))

-- what a scan finds in an image with this log and these blocks of a state
pub record IsScannedIn (log homes : List ℕ) (scanned : Scanned) : Type 0 where
  pub heads : List Head
  pub entries : List Entry
  pub live_in : IsLiveIn scanned.uuid log heads entries
  pub logged : List Logged
  pub log_all : LogAll entries logged
  pub blocks : (block : ℕ) → IsStateBlock block → copy_of scanned.blocks.items block ≡ replayed block (copy_of homes block) logged
  pub pending_are : scanned.pending.items ≡ pending (logged_items logged)
  pub few : length scanned.pending.items ≤ MOST_PENDING
  pub head : scanned.head ≡ live_in.head.head.lsn
  pub last : scanned.last ≡ live_in.head.head
  pub clean : (scanned.clean ≡ true) ↔ IsCleanRecord live_in.head
  pub ends_open : (scanned.ends_open ≡ true) ↔ (live_in.entries_are.o ≢ Between)
  pub next : scanned.next ≡ next_id (logged_items logged)
  pub dirty : (block : ℕ) → IsStateBlock block → get_or scanned.dirty.items (copy_number block) false ≡ is_logged block logged
