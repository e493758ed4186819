-- What following the log back from a head comes to, whatever the head's body is; of no public contract.
use Rattle.std.specs.Prelude.{◌≡◌, ℕ, List}
use Rattle.xr_record.specs.declared.head.Head.{Head}
use Rattle.xr_record.specs.declared.head.Lsn.{Lsn}
use Rattle.xr_commit.specs.declared.fault.ScanFault.{ScanFault}
use Rattle.xr_commit.specs.Chain.{IsLiveTrail, IsPreviousRecord}
use Rattle.xr_commit.specs.LogRecords.{LogRecord, heads_of}
use Rattle.xr_commit.specs.Refusals.{BreaksChain}

-- the header of a record before another
pub record IsHeaderBefore (uuid log : List ℕ) (tail : Lsn) (named_by head : Head) : Type 0 where
  pub body : List ℕ
  pub before : IsPreviousRecord uuid log tail named_by (record { head = head; body = body })

-- the headers of the chain's records
pub record AreOfChain (uuid log : List ℕ) (newest : LogRecord) (heads : List Head) : Type 0 where
  pub records : List LogRecord
  pub chain : IsLiveTrail uuid log newest records
  pub heads_are : heads ≡ heads_of records

abbrev pub HasChain : List ℕ → List ℕ → Head → List Head → Type 0
HasChain uuid log head heads = (newest : LogRecord) → newest.head ≡ head → AreOfChain uuid log newest heads

abbrev pub HasNoChain : List ℕ → List ℕ → Head → ScanFault → Type 0
HasNoChain uuid log head fault = (newest : LogRecord) → newest.head ≡ head → BreaksChain uuid log newest fault
