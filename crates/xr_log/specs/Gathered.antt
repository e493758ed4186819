-- What the record that grows in memory adds to the live stream of an image.
use Rattle.std.specs.Prelude.{◌≡◌, ◌≢◌, ℕ, ◌+◌, ◌<◌, ◌^◌, Bool, if◌then◌else◌, List, [], ◌++◌, length, map}
use Rattle.std.specs.List.{AllByRecursion}
use Rattle.xr_base.specs.Image.{block_of}
use Rattle.xr_record.specs.declared.operation.Sort.TheVariants.{Unmount}
use Rattle.xr_record.specs.Operations.{Operation, operation_bytes}
use Rattle.xr_record.specs.Packing.{Packed}
use Rattle.xr_record.specs.Rules.{IsStream}
use Rattle.xr_record.specs.Stream.{Open, Piece, all_bytes, entry}
use Rattle.xr_commit.specs.Entries.{joined_bodies}
use Rattle.xr_commit.specs.GoodItems.{EntriesAreGood}
use Rattle.xr_commit.specs.LoggedItems.{Logged}
use Rattle.xr_commit.specs.LogRecords.{LogRecord}
use Rattle.xr_commit.specs.Pending.{pending}
use Rattle.xr_scan.specs.LoggedEntries.{LogAll, logged_items}
use Rattle.xr_scan.specs.Replayed.{replayed}
use Rattle.xr_scan.specs.State.{HasBlock, Holds, State, works_of}

-- an operation of a transaction that a header has room for
pub record IsPushed (op : Operation) : Type 0 where
  pub tid : op.tid < 2 ^ 32
  pub len : length op.body < 2 ^ 32
  pub own : op.sort ≢ Unmount

-- what a stream says: its whole pieces, what stands open after them, the last id of an intent, and what the transactions log
pub record Said : Type 0 where
  pub pieces : List Piece
  pub o : Open
  pub last : ℕ
  pub logged : List Logged

-- the records that are still needed: the live ones, or none where the next record is its own tail
abbrev pub needed : Bool → List LogRecord → List LogRecord
needed anew records = if anew then [] else records

-- With the packed operations after the needed records the stream says this, and that makes this state of the image's blocks,
-- the one after its last whole transaction. The image holds the state that stands on the disk.
pub record HasGathered (image : List ℕ) (state : State) (holds : Holds image state) (records : List LogRecord) (packed : Packed) (now : State) (said : Said) : Type 0 where
  pub ops : List Operation
  pub each : AllByRecursion IsPushed ops
  pub body : packed.body ≡ all_bytes ops
  pub number : packed.ops ≡ length ops
  pub stream : IsStream (joined_bodies records ++ packed.body) said.pieces said.o []
  pub items : EntriesAreGood state.uuid 0 (map entry said.pieces) said.last
  pub log_all : LogAll (map entry said.pieces) said.logged
  pub uuid : now.uuid ≡ state.uuid
  pub blocks : (block : ℕ) → HasBlock now block → now.blocks block ≡ replayed block (block_of image block) said.logged
  pub works : now.works ≡ works_of (pending (logged_items said.logged))

abbrev pub nothing_packed : Packed
nothing_packed = record { body = []; ops = 0 }

-- one more operation, and its count
abbrev pub with_operation : Packed → Operation → Packed
with_operation packed op = record { body = packed.body ++ operation_bytes op; ops = packed.ops + 1 }
