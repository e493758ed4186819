-- What a scan of an image finds.
use Rattle.std.specs.Prelude.{◌≡◌, ◌≢◌, ◌↔◌, ℕ, zero, suc, ◌+◌, ◌*◌, ◌-◌, ◌/◌, ◌%◌, ◌<◌, ◌≤◌, nat_lt, true, false, if◌then◌else◌, List, [], ◌∷◌, get_or, length}
use Rattle.std.specs.List.{flat_map}
use Rattle.xr_base.specs.Image.{block_of, part}
use Rattle.xr_base.specs.declared.geometry.TheConstants.{BLOCK_BYTES, FILE_BLOCKS, FILES, FIRST_DATA_BLOCK, FIRST_FILE_BLOCK, FIRST_GROUP_BLOCK, GROUP_BLOCKS}
use Rattle.xr_record.specs.declared.entry.Entry.{Entry}
use Rattle.xr_record.specs.declared.head.Head.{Head}
use Rattle.xr_record.specs.Stream.{Between}
use Rattle.xr_commit.specs.LogEnds.{IsCleanRecord}
use Rattle.xr_commit.specs.LiveStream.{IsLiveIn}
use Rattle.xr_commit.specs.LogRecords.{HasSuper, log_of}
use Rattle.xr_commit.specs.LoggedItems.{Logged}
use Rattle.xr_commit.specs.Pending.{pending}
use Rattle.xr_scan.specs.declared.scanned.Scanned.{Scanned}
use Rattle.xr_scan.specs.declared.layout.TheConstants.{MOST_PENDING}
use Rattle.xr_scan.specs.LoggedEntries.{LogAll, logged_items}
use Rattle.xr_scan.specs.Replayed.{is_logged, replayed}
use Rattle.xr_scan.specs.NextId.{next_id}
use Rattle.xr_scan.specs.State.{HasBlock, State, works_of}

-- the number of a block among those of a state: the files' blocks come first, and then the groups'
abbrev pub copy_number : ℕ → ℕ
copy_number block =
    if nat_lt block FIRST_GROUP_BLOCK then block - FIRST_FILE_BLOCK
    else FILES * FILE_BLOCKS + FIRST_DATA_BLOCK * ((block - FIRST_GROUP_BLOCK) / GROUP_BLOCKS) + (block - FIRST_GROUP_BLOCK) % GROUP_BLOCKS

-- a block's copy among the copies of all of them
abbrev pub copy_of : List ℕ → ℕ → List ℕ
copy_of copies block = part (BLOCK_BYTES * copy_number block) BLOCK_BYTES copies

-- the state that was found
abbrev pub scanned_state : Scanned → State
scanned_state scanned = record {
  uuid = scanned.uuid;
  blocks = copy_of scanned.blocks.items;
  works = works_of scanned.pending.items;
}

-- so many blocks of a state from one on, and their bytes
unfoldable pub blocks_from : State → ℕ → ℕ → List (List ℕ)
blocks_from state first zero = []
blocks_from state first (suc n) = state.blocks first ∷ blocks_from state (suc first) n

abbrev pub bytes_from : State → ℕ → ℕ → List ℕ
bytes_from state first n = flat_map (λ (block : List ℕ). block) (blocks_from state first n)

-- What was found is what the image holds, and what is needed to go on from there.
pub record IsScanned (image : List ℕ) (scanned : Scanned) : Type 0 where
  pub superblock : HasSuper image scanned.uuid
  pub heads : List Head
  pub entries : List Entry
  pub live_in : IsLiveIn scanned.uuid (log_of image) heads entries
  pub logged : List Logged
  pub log_all : LogAll entries logged
  pub blocks : (block : ℕ) → HasBlock (scanned_state scanned) block → copy_of scanned.blocks.items block ≡ replayed block (block_of image block) logged
  pub pending_are : scanned.pending.items ≡ pending (logged_items logged)
  pub few : length scanned.pending.items ≤ MOST_PENDING
  pub head : scanned.head ≡ live_in.head.head.lsn
  pub last : scanned.last ≡ live_in.head.head
  pub clean : (scanned.clean ≡ true) ↔ IsCleanRecord live_in.head
  pub ends_open : (scanned.ends_open ≡ true) ↔ (live_in.entries_are.o ≢ Between)
  pub next : scanned.next ≡ next_id (logged_items logged)
  pub dirty : (block : ℕ) → HasBlock (scanned_state scanned) block → get_or scanned.dirty.items (copy_number block) false ≡ is_logged block logged

-- more intents are pending than a log has slots for
pub record HasTooMany (image : List ℕ) : Type 0 where
  pub uuid : List ℕ
  pub superblock : HasSuper image uuid
  pub heads : List Head
  pub entries : List Entry
  pub live_in : IsLiveIn uuid (log_of image) heads entries
  pub logged : List Logged
  pub log_all : LogAll entries logged
  pub many : MOST_PENDING < length (pending (logged_items logged))
