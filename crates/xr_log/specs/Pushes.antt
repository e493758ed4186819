-- What one more operation makes of a stream and of what was gathered; and that the operations of a transaction make right bodies.
use Rattle.std.specs.Prelude.{◌≡◌, ℕ, List, [], ◌∷◌, ◌++◌, length, map}
use Rattle.std.specs.List.{AllByRecursion, flat_map}
use Rattle.xr_record.specs.Operations.{Operation, operation_bytes}
use Rattle.xr_record.specs.Packing.{Packed}
use Rattle.xr_record.specs.Rules.{IsStream}
use Rattle.xr_record.specs.Stream.{Between, Inside, IsOpenPiece, IsTransaction, Open, Piece, Transaction, Written, all_bytes, begun, commit, joined}
use Rattle.xr_commit.specs.GoodItems.{ItemsAreGood, last_of}
use Rattle.xr_commit.specs.LogRecords.{LogRecord}
use Rattle.xr_commit.specs.LoggedItems.{Logged, logged_regions}
use Rattle.xr_commit.specs.Operations.{HoldsOperations, KeepsUnmounts}
use Rattle.xr_commit.specs.Pending.{pending}
use Rattle.xr_scan.specs.LoggedEntries.{IsWholeItem, logged_items}
use Rattle.xr_scan.specs.Replayed.{replayed}
use Rattle.xr_scan.specs.State.{Holds, State, works_of}
use Rattle.xr_log.specs.Gathered.{HasGathered, IsPushed, Said, with_operation}

-- one more operation within a transaction: the whole pieces stay
abbrev pub StreamGoesOn : Type 0
StreamGoesOn = (bytes : List ℕ) (pieces : List Piece) (o next : Open) (op : Operation) → IsStream bytes pieces o [] → begun next ≡ begun o ++ op ∷ []
    → IsOpenPiece next → IsStream (bytes ++ operation_bytes op) pieces next []

-- its end: one piece more
abbrev pub StreamEnds : Type 0
StreamEnds = (bytes : List ℕ) (pieces : List Piece) (t : Written) → IsStream bytes pieces (Inside t) [] → IsTransaction t
    → IsStream (bytes ++ operation_bytes (commit t.tid)) (pieces ++ Transaction t ∷ []) Between []

-- a body of such operations is right, with their number
abbrev pub BodyIsRight : Type 0
BodyIsRight = (r : LogRecord) (ops : List Operation) → AllByRecursion IsPushed ops → r.body ≡ all_bytes ops → r.head.ops ≡ length ops
    → HoldsOperations r × KeepsUnmounts r

abbrev pub opened : Said → Open → Said
opened said o = record { pieces = said.pieces; o = o; last = said.last; logged = said.logged }

-- An operation within a transaction leaves the state as it is, so a record may end there.
abbrev pub GathersOn : Type 0
GathersOn = (image : List ℕ) (state : State) (holds : Holds image state) (records : List LogRecord) (packed : Packed) (now : State) (said : Said) (op : Operation)
    (next : Open) → HasGathered image state holds records packed now said → IsPushed op → begun next ≡ begun said.o ++ op ∷ [] → IsOpenPiece next
    → HasGathered image state holds records (with_operation packed op) now (opened said next)

-- what is said after a transaction that logs more items, and the state then
abbrev pub said_after : Said → Written → List Logged → Said
said_after said t logged =
    record { pieces = said.pieces ++ Transaction t ∷ []; o = Between; last = last_of said.last logged; logged = said.logged ++ logged }

abbrev pub state_with : State → List Logged → List Logged → State
state_with now logged more = record {
  uuid = now.uuid;
  blocks = λ (block : ℕ). replayed block (now.blocks block) more;
  works = works_of (pending (logged_items (logged ++ more)));
}

-- Its last operation makes the state after its items the one that the stream says.
abbrev pub GathersAll : Type 0
GathersAll = (image : List ℕ) (state : State) (holds : Holds image state) (records : List LogRecord) (packed : Packed) (now : State) (said : Said) (t : Written)
    (logged : List Logged) → HasGathered image state holds records packed now said → said.o ≡ Inside t → IsTransaction t
    → map joined t.regions ≡ flat_map logged_regions logged → ItemsAreGood state.uuid said.last logged → AllByRecursion IsWholeItem logged
    → HasGathered image state holds records (with_operation packed (commit t.tid)) (state_with now said.logged logged) (said_after said t logged)
