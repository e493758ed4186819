-- The records of the chain stand in the log, whole before its end.
use Rattle.std.proofs.Common.{◌≡◌, ℕ, ◌+◌, ◌-◌, ◌*◌, ◌≤◌, List, [], ◌∷◌, All, length, drop, sym, subst, arith}
use Rattle.std.proofs.lemmas.List.{length-drop, length-take}
use Rattle.std.proofs.lemmas.List.Elements.{All-cons, All-nil}
use Rattle.xr_base.specs.declared.geometry.TheConstants.{LOG_SECTORS, SECTOR_BYTES}
use Rattle.xr_record.specs.declared.head.Lsn.{Lsn}
use Rattle.xr_record.specs.Record.{sectors_of}
use Rattle.xr_record.specs.SealedRecordLaws.{sealed_len, sealed_length}
use Rattle.xr_commit.specs.declared.layout.TheConstants.{LOG_BYTES, MOST_RECORD_BYTES}
use Rattle.xr_commit.specs.Chain.{IsLiveTrail, IsTrail}
use Rattle.xr_commit.specs.LogRecords.{IsHead, LogRecord, StandsAt, bytes_at, record_end}

abbrev pub StandsIn : List ℕ → LogRecord → Type 0
StandsIn log r = StandsAt log r.head.lsn.sector r

-- a record stands at the sector that it names
at_own : (log : List ℕ) (sector : ℕ) (r : LogRecord) → StandsAt log sector r → StandsIn log r
at_own log sector r stands = subst (λ (n : ℕ). StandsAt log n r) (sym stands.here) stands

trail_stands : (uuid log : List ℕ) (tail : Lsn) (newest oldest : LogRecord) (later : List LogRecord) → StandsIn log newest
    → IsTrail uuid log tail newest oldest later → All (StandsIn log) (oldest ∷ later)
trail_stands uuid log tail newest oldest [] stands trail =
    All-cons (StandsIn log) oldest [] (subst (StandsIn log) (sym trail) stands) (All-nil (StandsIn log))
trail_stands uuid log tail newest oldest (next ∷ later) stands trail =
    All-cons (StandsIn log) oldest (next ∷ later) (at_own log next.head.prev oldest trail.0.at.stands) (trail_stands uuid log tail newest next later stands trail.1)

pub chain_stands : (uuid log : List ℕ) (newest : LogRecord) (records : List LogRecord) → IsHead uuid log newest → IsLiveTrail uuid log newest records → All (StandsIn log) records
chain_stands uuid log newest records head chain =
    subst (All (StandsIn log)) (sym chain.records_are)
    (trail_stands uuid log newest.head.tail newest chain.oldest chain.later head.at.stands chain.trail)

-- no more bytes are left at a sector than up to the log's end
bytes_left : (log : List ℕ) (sector : ℕ) → length log ≡ LOG_BYTES → length (bytes_at log sector) ≤ LOG_BYTES - SECTOR_BYTES * sector
bytes_left log sector long =
    let e = length-take MOST_RECORD_BYTES (drop (SECTOR_BYTES * sector) log) in
    let f = length-drop (SECTOR_BYTES * sector) log in
    omega (arith, e, f, long)

pub ends_within : (log : List ℕ) (r : LogRecord) → length log ≡ LOG_BYTES → StandsIn log r → record_end r.head ≤ LOG_SECTORS
ends_within log r long stands =
    let bytes = bytes_at log r.head.lsn.sector in
    let left = bytes_left log r.head.lsn.sector long in
    let whole = subst (λ (n : ℕ). SECTOR_BYTES + SECTOR_BYTES * sectors_of n ≤ length bytes) (sealed_len bytes r.head r.body stands.sealed)
    (sealed_length bytes r.head r.body stands.sealed).room in
    omega (arith, left, whole)
