-- What a pass over live records in log order comes to; of no public contract.
use Rattle.std.specs.Prelude.{◌≡◌, ℕ, ◌++◌, List, [], ◌∷◌, All}
use Rattle.xr_record.specs.declared.entry.Entry.{Entry}
use Rattle.xr_record.specs.declared.head.Head.{Head}
use Rattle.xr_record.specs.Reading.{Reading, Reads}
use Rattle.xr_commit.specs.declared.fault.ScanFault.{ScanFault}
use Rattle.xr_commit.specs.declared.fault.ScanFault.TheVariants.{Operation}
use Rattle.xr_commit.specs.Entries.{joined_bodies}
use Rattle.xr_commit.specs.LogRecords.{LogRecord, StandsAt, home_of}
use Rattle.xr_commit.specs.Operations.{HoldsOperations}
use Rattle.xr_commit.specs.Refusals.{IsWrongAfter}

-- a record in the log has this header
pub record IsInLog (log : List ℕ) (head : Head) (r : LogRecord) : Type 0 where
  pub stands : StandsAt log head.lsn.sector r
  pub head_is : r.head ≡ head

-- these records were read: each is whole operations, and the reader has these entries of them
pub record HaveBeenRead (records : List LogRecord) (entries : List Entry) (reader : Reading) : Type 0 where
  pub each : All HoldsOperations records
  pub reads : Reads (joined_bodies records) entries reader

-- whatever was read before, with this record it is read on
abbrev pub ReadsRecord : LogRecord → Reading → List Entry → Reading → List Entry → Type 0
ReadsRecord r old old_entries new new_entries =
    (before : List LogRecord) → HaveBeenRead before old_entries old → HaveBeenRead (before ++ r ∷ []) new_entries new

-- or this record is the first one that is wrong
abbrev pub IsWrongRecord : LogRecord → Reading → List Entry → Type 0
IsWrongRecord r old old_entries = (before : List LogRecord) → HaveBeenRead before old_entries old → IsWrongAfter before r

-- with this header and this body it is, and its operations are named
abbrev pub IsFirstWrong : Head → List ℕ → Reading → List Entry → ScanFault → Type 0
IsFirstWrong head body old old_entries fault =
    (fault ≡ Operation (home_of head)) × ((r : LogRecord) → r.head ≡ head → r.body ≡ body → IsWrongRecord r old old_entries)
