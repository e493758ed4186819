-- What a reader's fields stand for, and what the steps of a reader make of them; of no public contract.
use Rattle.std.specs.Prelude.{◌≡◌, ◌⊎◌, ◌<◌, ◌≤◌, ◌+◌, ◌^◌, ℕ, List, [], ◌++◌, length, map, take, drop, option_to_list, Option, Some, None, Result, Ok, Err}
use Rattle.std.specs.Global.{Vec}
use Rattle.xr_record.specs.declared.reader_fields.ReaderFields.{ReaderFields}
use Rattle.xr_record.specs.declared.layout.TheConstants.{OPERATION_BYTES, TRANSACTION_HEADER_BYTES}
use Rattle.xr_record.specs.declared.entry.Entry.{Entry}
use Rattle.xr_record.specs.declared.fault.FeedFault.{FeedFault}
use Rattle.xr_record.specs.declared.fault.FeedFault.TheVariants.{Op, NoMemory}
use Rattle.xr_record.specs.declared.operation.Fields.{Fields}
use Rattle.xr_record.specs.declared.operation.Sort.{Sort}
use Rattle.xr_record.specs.declared.rules.OpKind.{OpKind}
use Rattle.xr_record.specs.declared.rules.Stage.{Stage}
use Rattle.xr_record.specs.declared.rules.Stage.TheVariants as stage
use Rattle.xr_record.specs.Operations.{fields, sort_of}
use Rattle.xr_base.specs.Fields.{AreBytes}
use Rattle.xr_record.specs.Rules.{Phase, AtEntry, AtHeader, AtRegion, AtPart, Breaks, IsPartial, body_fault, header_fault, ReaderState}
use Rattle.xr_record.specs.ReaderSteps.{goes_on}

-- how many bytes of the open region stand in operations that are whole
abbrev pub front_of : Stage → ℕ
front_of stage.Between = 0
front_of (stage.Begun tid) = 0
front_of (stage.Inside tid count) = 0
front_of (stage.Cut tid count front) = front

abbrev pub phase_at : Stage → List (List ℕ) → List ℕ → Phase
phase_at stage.Between regions body = AtEntry
phase_at (stage.Begun tid) regions body = AtHeader tid
phase_at (stage.Inside tid count) regions body = AtRegion tid count regions
phase_at (stage.Cut tid count front) regions body = AtPart tid count regions (take front body)

abbrev pub region_items : List (Vec ℕ) → List (List ℕ)
region_items regions = map (λ region. region.items) regions

abbrev pub reader_state : ReaderFields → ReaderState
reader_state reader = record {
  place = reader.place;
  phase = phase_at reader.stage (region_items reader.regions.items) reader.body.items;
  rest = reader.header.items ++ drop (front_of reader.stage) reader.body.items;
}

-- what testing a header comes to: its sort, or the rule that it breaks
abbrev pub IsHeaderSort : Phase → Fields → Result Sort OpKind → Type 0
IsHeaderSort phase f (Ok sort) = (header_fault phase f ≡ None) × (sort_of f.client f.flags ≡ Some sort)
IsHeaderSort phase f (Err kind) = header_fault phase f ≡ Some kind

-- there is room for the number of regions where it is to be read
abbrev pub HasCountBytes : Stage → ℕ → Type 0
HasCountBytes stage.Between len = Unit {0}
HasCountBytes (stage.Begun tid) len = len ≡ TRANSACTION_HEADER_BYTES
HasCountBytes (stage.Inside tid count) len = Unit {0}
HasCountBytes (stage.Cut tid count front) len = Unit {0}

-- the header is whole before there is a body, and the body has no more bytes than the header says
pub record IsGrowing (reader : ReaderFields) : Type 0 where
  pub header : length reader.header.items ≤ OPERATION_BYTES
  pub front : front_of reader.stage ≤ length reader.body.items
  pub bare : length reader.header.items < OPERATION_BYTES → length reader.body.items ≡ front_of reader.stage
  pub most : OPERATION_BYTES ≤ length reader.header.items → length reader.body.items ≤ front_of reader.stage + (fields reader.header.items).len

-- and the header is right, and the body not whole
pub record AwaitsMore (reader : ReaderFields) : Type 0 where
  pub growing : IsGrowing reader
  pub less : OPERATION_BYTES ≤ length reader.header.items → length reader.body.items < front_of reader.stage + (fields reader.header.items).len
  pub right : OPERATION_BYTES ≤ length reader.header.items → header_fault (reader_state reader).phase (fields reader.header.items) ≡ None

-- bytes were added to those of the operation that isn't whole
pub record TakesBytes (old new : ReaderFields) (taken : List ℕ) : Type 0 where
  pub growing : IsGrowing new
  pub place : new.place ≡ old.place
  pub phase : (reader_state new).phase ≡ (reader_state old).phase
  pub rest : (reader_state new).rest ≡ (reader_state old).rest ++ taken

-- what an operation makes of what is open, where its header isn't gone yet
pub record Applies (old new : ReaderFields) (sort : Sort) (tid : ℕ) (entry : Option Entry) : Type 0 where
  pub goes : goes_on (reader_state old).phase sort tid (drop (front_of old.stage) old.body.items) ≡ (option_to_list entry, (reader_state new).phase)
  pub gone : length new.body.items ≡ front_of new.stage
  pub header : new.header.items ≡ old.header.items
  pub place : new.place ≡ old.place

-- the operation is whole and its header right
pub record IsWholeOperation (reader : ReaderFields) (f : Fields) (sort : Sort) : Type 0 where
  pub header : length reader.header.items ≡ OPERATION_BYTES
  pub fields_are : f ≡ fields reader.header.items
  pub whole : length reader.body.items ≡ front_of reader.stage + f.len
  pub right : header_fault (reader_state reader).phase f ≡ None
  pub sort_is : sort_of f.client f.flags ≡ Some sort
  pub small : AreBytes reader.header.items

-- an operation was whole, and made this of what was open
pub record Completes (old new : ReaderState) (entry : Option Entry) : Type 0 where
  pub sort : Sort
  pub header : OPERATION_BYTES ≤ length old.rest
  pub whole : length old.rest ≡ OPERATION_BYTES + (fields old.rest).len
  pub right : header_fault old.phase (fields old.rest) ≡ None
  pub sort_is : sort_of (fields old.rest).client (fields old.rest).flags ≡ Some sort
  pub body : body_fault old.phase sort (drop OPERATION_BYTES old.rest) ≡ None
  pub goes : goes_on old.phase sort (fields old.rest).tid (drop OPERATION_BYTES old.rest) ≡ (option_to_list entry, new.phase)
  pub none_left : new.rest ≡ []
  pub place : old.place + length old.rest < 2 ^ 64 → new.place ≡ old.place + length old.rest
  pub small : AreBytes old.rest

-- it isn't whole yet, and right so far; or it was whole
abbrev pub Settles : ReaderState → ReaderState → Option Entry → Type 0
Settles old new entry = ((new ≡ old) × (entry ≡ None) × IsPartial old.phase old.rest) ⊎ Completes old new entry

-- the bytes so far break a rule; want of memory needs no cause
abbrev pub IsFault : ReaderState → FeedFault → Type 0
IsFault held (Op place kind) = (place ≡ held.place) × Breaks held.phase held.rest kind
IsFault held NoMemory = Unit {0}
