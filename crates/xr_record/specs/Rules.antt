-- The rules that each operation is tested by, in their order, and what a stream is that keeps or breaks them.
use Rattle.std.specs.Prelude.{◌≡◌, ◌⊎◌, ◌==◌, ◌&&◌, ◌||◌, ◌<◌, ◌≤◌, ◌+◌, ◌/◌, ◌%◌, ◌^◌, ℕ, Bool, true, false, List, ◌∷◌, length, map, nat_lt, nat_le, if◌then◌else◌, take, drop, Option, Some, None}
use Rattle.std.specs.List.{AllByRecursion}
use Rattle.std.specs.Str.{bytes_eq}
use Rattle.byteorder.specs.Endian.{little_number}
use Rattle.xr_record.specs.declared.entry.Entry.{Entry}
use Rattle.xr_record.specs.declared.layout.TheConstants.{LOG_CLIENT, MOST_REGION_BYTES, OPERATION_BYTES, TRANSACTION_CLIENT, TRANSACTION_HEADER_BYTES, TRANSACTION_MAGIC, TRANSACTION_TID_PLACE, TRANSACTION_TYPE, TRANSACTION_TYPE_PLACE, UNMOUNT, UNMOUNT_BODY_BYTES}
use Rattle.xr_record.specs.declared.operation.Fields.{Fields}
use Rattle.xr_record.specs.declared.operation.Sort.{Sort}
use Rattle.xr_record.specs.declared.operation.Sort.TheVariants.{Start, Whole, First, Middle, Last, Commit, Unmount}
use Rattle.xr_record.specs.declared.rules.OpKind.{OpKind}
use Rattle.xr_record.specs.declared.rules.OpKind.TheVariants.{Client, Flags, Tid, Length, Header, Count}
use Rattle.xr_record.specs.Operations.{fields, sort_of}
use Rattle.xr_record.specs.Stream.{Piece, Open, Between, Begun, Inside, Cut, IsOpenPiece, IsPiece, are_items, entry, joined, stream_of, unmount_body}

-- what the rules look at of what is open: its regions, each joined
pub data Phase : Type 0 where
  AtEntry : Phase
  AtHeader : (tid : ℕ) → Phase
  AtRegion : (tid count : ℕ) → (regions : List (List ℕ)) → Phase
  AtPart : (tid count : ℕ) → (regions : List (List ℕ)) → (part : List ℕ) → Phase

abbrev pub phase_of : Open → Phase
phase_of Between = AtEntry
phase_of (Begun tid) = AtHeader tid
phase_of (Inside t) = AtRegion t.tid t.count (map joined t.regions)
phase_of (Cut t part parts) = AtPart t.tid t.count (map joined t.regions) (joined (part ∷ parts))

-- a log client's operation has the flag of an unmount, whatever others it has
abbrev pub is_client : Fields → Bool
is_client f = f.client == TRANSACTION_CLIENT || (f.client == LOG_CLIENT && (f.flags / UNMOUNT) % 2 == 1)

-- which sort may come
abbrev pub may_come : Phase → Sort → Bool
may_come AtEntry Start = true
may_come AtEntry Unmount = true
may_come (AtHeader tid) Whole = true
may_come (AtRegion tid count regions) Whole = true
may_come (AtRegion tid count regions) First = true
may_come (AtRegion tid count regions) Commit = true
may_come (AtPart tid count regions part) Middle = true
may_come (AtPart tid count regions part) Last = true
may_come phase sort = false

abbrev pub is_tid : Phase → Sort → ℕ → Bool
is_tid AtEntry Unmount tid = tid == 0
is_tid AtEntry sort tid = true
is_tid (AtHeader own) sort tid = tid == own
is_tid (AtRegion own count regions) sort tid = tid == own
is_tid (AtPart own count regions part) sort tid = tid == own

-- a region or a part has bytes, and a region isn't too long
abbrev pub is_region_len : ℕ → ℕ → Bool
is_region_len before len = nat_lt 0 len && nat_le (before + len) MOST_REGION_BYTES

abbrev pub is_len : Phase → Sort → ℕ → Bool
is_len (AtHeader tid) sort len = len == TRANSACTION_HEADER_BYTES
is_len (AtPart tid count regions part) sort len = is_region_len (length part) len
is_len phase Start len = len == 0
is_len phase Commit len = len == 0
is_len phase Unmount len = len == UNMOUNT_BODY_BYTES
is_len phase sort len = is_region_len 0 len

-- the first rule that the header of an operation breaks
abbrev pub sort_fault : Phase → Fields → Option Sort → Option OpKind
sort_fault phase f None = Some Flags
sort_fault phase f (Some sort) =
    if may_come phase sort && f.zeros == 0 then (if is_tid phase sort f.tid then (if is_len phase sort f.len then None else Some Length) else Some Tid) else Some Flags

unfoldable pub header_fault : Phase → Fields → Option OpKind
header_fault phase f = if is_client f then sort_fault phase f (sort_of f.client f.flags) else Some Client

abbrev pub is_header_body : ℕ → List ℕ → Bool
is_header_body tid body =
    length body == TRANSACTION_HEADER_BYTES && little_number 4 body == TRANSACTION_MAGIC && little_number 4 (drop TRANSACTION_TYPE_PLACE body) == TRANSACTION_TYPE
    && little_number 4 (drop TRANSACTION_TID_PLACE body) == tid

-- and the first that a whole operation with a right header breaks
abbrev pub body_fault : Phase → Sort → List ℕ → Option OpKind
body_fault (AtHeader tid) sort body = if is_header_body tid body then None else Some Header
body_fault (AtRegion tid count regions) Commit body = if count == length regions && are_items regions then None else Some Count
body_fault AtEntry Unmount body = if bytes_eq body unmount_body then None else Some Header
body_fault phase sort body = None

-- the front of the bytes is an operation that breaks a rule
pub record HasBody (bytes : List ℕ) : Type 0 where
  pub header : OPERATION_BYTES ≤ length bytes
  pub body : OPERATION_BYTES + (fields bytes).len ≤ length bytes

abbrev pub operation_body : List ℕ → List ℕ
operation_body bytes = take (fields bytes).len (drop OPERATION_BYTES bytes)

abbrev pub whole_fault : Phase → List ℕ → Option Sort → Option OpKind
whole_fault phase bytes None = None
whole_fault phase bytes (Some sort) = body_fault phase sort (operation_body bytes)

abbrev pub Breaks : Phase → List ℕ → OpKind → Type 0
Breaks phase bytes kind =
    ((OPERATION_BYTES ≤ length bytes) × (header_fault phase (fields bytes) ≡ Some kind))
    ⊎ (HasBody bytes × (header_fault phase (fields bytes) ≡ None)
    × (whole_fault phase bytes (sort_of (fields bytes).client (fields bytes).flags) ≡ Some kind))

-- the bytes are less than a whole operation, and break no rule as far as they go
pub record IsPartial (phase : Phase) (bytes : List ℕ) : Type 0 where
  pub less : HasBody bytes → ⊥
  pub right : OPERATION_BYTES ≤ length bytes → header_fault phase (fields bytes) ≡ None

-- the bytes are these pieces, what stands after them, and less than a whole operation
pub record IsStream (bytes : List ℕ) (pieces : List Piece) (o : Open) (rest : List ℕ) : Type 0 where
  pub whole : bytes ≡ stream_of pieces o rest
  pub each : AllByRecursion IsPiece pieces
  pub good : IsOpenPiece o
  pub partial : IsPartial (phase_of o) rest

-- the operation that begins at a place breaks a rule, and all before it are right
pub record IsBad (bytes : List ℕ) (place : ℕ) (kind : OpKind) : Type 0 where
  pub pieces : List Piece
  pub o : Open
  pub rest : List ℕ
  pub whole : bytes ≡ stream_of pieces o rest
  pub each : AllByRecursion IsPiece pieces
  pub good : IsOpenPiece o
  pub place_is : place + length rest ≡ length bytes
  pub breaks : Breaks (phase_of o) rest kind

-- what a reader keeps: what is open, and the place and the bytes of the operation that isn't whole
pub record ReaderState : Type 0 where
  pub place : ℕ
  pub phase : Phase
  pub rest : List ℕ

-- the bytes are these entries, and then what the reader keeps
pub record ReadsTo (bytes : List ℕ) (entries : List Entry) (held : ReaderState) : Type 0 where
  pub pieces : List Piece
  pub o : Open
  pub stream : IsStream bytes pieces o held.rest
  pub entries_are : entries ≡ map entry pieces
  pub phase_is : held.phase ≡ phase_of o
  pub place_is : length bytes < 2 ^ 64 → held.place + length held.rest ≡ length bytes
