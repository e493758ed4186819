-- How a log ends.
use Rattle.std.specs.Prelude.{◌≡◌, ℕ, List}
use Rattle.xr_record.specs.Operations.{operation_bytes}
use Rattle.xr_record.specs.Stream.{unmount}
use Rattle.xr_commit.specs.declared.log_ends.LogEnd.{LogEnd}
use Rattle.xr_commit.specs.declared.log_ends.LogEnd.TheVariants.{Empty, Unmounted, InUse}
use Rattle.xr_commit.specs.LogRecords.{HasNoRecord, IsHead, LogRecord}

-- a record that is an unmount and nothing else
abbrev pub IsCleanRecord : LogRecord → Type 0
IsCleanRecord r = r.body ≡ operation_bytes unmount

-- the newest record of a log, and that it is such a record or isn't
pub record EndsClean (uuid log : List ℕ) : Type 0 where
  pub newest : LogRecord
  pub head : IsHead uuid log newest
  pub clean : IsCleanRecord newest

pub record EndsInUse (uuid log : List ℕ) : Type 0 where
  pub newest : LogRecord
  pub head : IsHead uuid log newest
  pub other : IsCleanRecord newest → ⊥

abbrev pub EndsWith : List ℕ → List ℕ → LogEnd → Type 0
EndsWith uuid log Empty = HasNoRecord uuid log
EndsWith uuid log Unmounted = EndsClean uuid log
EndsWith uuid log (InUse lsn) = (ends : EndsInUse uuid log) × (lsn ≡ ends.newest.head.lsn)
