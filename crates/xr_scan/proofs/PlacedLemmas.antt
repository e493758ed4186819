-- The records of a live stream lie whole in the log.
use Rattle.std.proofs.Common.{◌≡◌, ◌<◌, ◌∙◌, ℕ, List, [], All, length, get_or, ap, sym, subst}
use Rattle.std.proofs.lemmas.List.{get_or-map}
use Rattle.xr_record.specs.declared.head.Head.{Head}
use Rattle.xr_commit.specs.declared.layout.TheConstants.{LOG_BYTES}
use Rattle.xr_commit.specs.LogRecords.{AreIn, LogRecord}
use Rattle.xr_scan.specs.LoggedLaws.{IsPlacedHead, LiveIsPlaced}
use Rattle.xr_commit.specs.HeadLaws.{length-heads, nth}
use Rattle.xr_commit.specs.WholeRecordLaws.{chain_stands, ends_within}

placed : (log : List ℕ) (heads : List Head) (records : List LogRecord) → length log ≡ LOG_BYTES → AreIn log heads records → All IsPlacedHead heads
placed log heads records long are k d within =
    let here : k < length records = subst (λ (n : ℕ). k < n) (length-heads log heads records are) within in
    let same : get_or heads k d ≡ (nth records k d).head =
    ap (λ (hs : List Head). get_or hs k d) are.heads_are ∙ get_or-map (λ (r : LogRecord). r.head) records k (record { head = d; body = [] }) d here in
    let stands = are.each k (record { head = d; body = [] }) here in
    subst IsPlacedHead (sym same) record { good = stands.sealed.good; within = ends_within log (nth records k d) long stands }

pub live_is_placed : LiveIsPlaced
live_is_placed uuid log heads entries long live =
    placed log heads live.records long record { each = chain_stands uuid log live.head live.records live.newest live.chain; heads_are = live.heads_are }
