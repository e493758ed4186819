-- What a reader promises: that the pieces so far, joined, are the entries that it answered and what it keeps.
use Rattle.std.specs.Prelude.{◌≡◌, ◌<◌, ◌^◌, ℕ, Bool, true, false, List, length, Option, None}
use Rattle.xr_record.specs.declared.entry.Entry.{Entry}
use Rattle.xr_record.specs.declared.fault.FeedFault.{FeedFault}
use Rattle.xr_record.specs.declared.fault.FeedFault.TheVariants.{Op, NoMemory}
use Rattle.xr_record.specs.Rules.{AtEntry, IsBad, ReadsTo, ReaderState, Phase}

-- a reader: what it keeps, and the fault that ended it, if any did
pub record Reading : Type 0 where
  pub held : ReaderState
  pub ended : Option FeedFault

-- the reader goes on, and these bytes are these entries and what it keeps
pub record Reads (bytes : List ℕ) (entries : List Entry) (reader : Reading) : Type 0 where
  pub goes_on : reader.ended ≡ None
  pub reads : ReadsTo bytes entries reader.held

-- a transaction was begun, and no COMMIT has ended it
abbrev pub is_open : Phase → Bool
is_open AtEntry = false
is_open phase = true

-- the operation at that place of the bytes breaks that rule; want of memory needs no cause. A place is exact below 2 ^ 64.
abbrev pub IsFaultOf : List ℕ → FeedFault → Type 0
IsFaultOf bytes (Op place kind) = (at : ℕ) × IsBad bytes at kind × (length bytes < 2 ^ 64 → place ≡ at)
IsFaultOf bytes NoMemory = Unit {0}
