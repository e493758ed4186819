-- What the bodies of the live records say, joined.
use Rattle.std.specs.Prelude.{◌≡◌, ℕ, List, map, All}
use Rattle.std.specs.List.{flat_map}
use Rattle.xr_record.specs.declared.entry.Entry.{Entry}
use Rattle.xr_record.specs.Rules.{IsStream}
use Rattle.xr_record.specs.Stream.{Piece, Open, entry}
use Rattle.xr_commit.specs.LogRecords.{LogRecord}
use Rattle.xr_commit.specs.Operations.{HoldsOperations}

abbrev pub joined_bodies : List LogRecord → List ℕ
joined_bodies records = flat_map (λ r. r.body) records

-- The bodies, joined, are these entries, and perhaps the beginning of a transaction, which is none.
pub record HasEntries (records : List LogRecord) (entries : List Entry) : Type 0 where
  pub each : All HoldsOperations records
  pub pieces : List Piece
  pub o : Open
  pub rest : List ℕ
  pub stream : IsStream (joined_bodies records) pieces o rest
  pub entries_are : entries ≡ map entry pieces
