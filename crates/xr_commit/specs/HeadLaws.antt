-- The records in the log that headers name, one after another.
use Rattle.std.proofs.Common.{◌≡◌, ℕ, List, [], length, get_or, ap, ◌∙◌}
use Rattle.std.proofs.lemmas.List.{length-map}
use Rattle.xr_record.specs.declared.head.Head.{Head}
use Rattle.xr_commit.specs.LogRecords.{AreIn, LogRecord}

pub length-heads : (log : List ℕ) (heads : List Head) (records : List LogRecord) → AreIn log heads records → length heads ≡ length records
length-heads log heads records a = ap length a.heads_are ∙ length-map records (λ (r : LogRecord). r.head)

-- the record of a header
abbrev pub nth : List LogRecord → ℕ → Head → LogRecord
nth records i h = get_or records i (record { head = h; body = [] })
