-- The records that headers of a chain name stand in the log, whole before its end.
use Rattle.std.proofs.Common.{◌≡◌, ℕ, ◌<◌, ◌≤◌, ◌∙◌, List, [], All, length, get_or, sym, ap, subst}
use Rattle.std.proofs.lemmas.List.{get_or-map}
use Rattle.xr_base.specs.declared.geometry.TheConstants.{LOG_SECTORS}
use Rattle.xr_record.specs.declared.head.Head.{Head}
use Rattle.xr_commit.specs.declared.layout.TheConstants.{LOG_BYTES}
use Rattle.xr_commit.specs.ChainHeaders.{AreOfChain}
use Rattle.xr_commit.specs.HeadLaws.{length-heads, nth}
use Rattle.xr_commit.specs.WholeRecordLaws.{chain_stands, ends_within}
use Rattle.xr_commit.specs.LogRecords.{AreIn, IsHead, IsNewest, LogRecord, record_end}

pub chain_in : (uuid log : List ℕ) (newest : LogRecord) (heads hs : List Head) → IsHead uuid log newest → (c : AreOfChain uuid log newest heads) → hs ≡ heads
    → AreIn log hs c.records
chain_in uuid log newest heads hs head c same = record { each = chain_stands uuid log newest c.records head c.chain; heads_are = same ∙ c.heads_are }

pub all_within : (log : List ℕ) (heads : List Head) (records : List LogRecord) → length log ≡ LOG_BYTES → AreIn log heads records
    → All (λ (h : Head). record_end h ≤ LOG_SECTORS) heads
all_within log heads records long are k d within =
    let here : k < length records = subst (λ (n : ℕ). k < n) (length-heads log heads records are) within in
    let same : get_or heads k d ≡ (nth records k d).head =
    ap (λ (hs : List Head). get_or hs k d) are.heads_are ∙ get_or-map (λ (r : LogRecord). r.head) records k (record { head = d; body = [] }) d here in
    subst (λ (h : Head). record_end h ≤ LOG_SECTORS) (sym same) (ends_within log (nth records k d) long (are.each k (record { head = d; body = [] }) here))

pub newest_within : (uuid log : List ℕ) (head : Head) → length log ≡ LOG_BYTES → IsNewest uuid log head → record_end head ≤ LOG_SECTORS
newest_within uuid log head long n = ends_within log (record { head = head; body = n.body }) long n.newest.at.stands
