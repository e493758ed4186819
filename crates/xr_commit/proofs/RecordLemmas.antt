-- Records in the log by the headers that name them, one after another.
use Rattle.std.proofs.Common.{◌≡◌, ℕ, suc, ◌+◌, ◌<◌, ◌∙◌, List, [], All, length, get_or, take, drop, sym, ap, subst}
use Rattle.std.proofs.lemmas.List.{get_or-map, take_more}
use Rattle.std.proofs.lemmas.List.Elements.{All-push}
use Rattle.std.proofs.Math.Seq.{split_at}
use Rattle.xr_record.specs.declared.head.Head.{Head}
use Rattle.xr_commit.specs.declared.fault.ScanFault.{ScanFault}
use Rattle.xr_commit.specs.declared.fault.ScanFault.TheVariants.{Place}
use Rattle.xr_commit.specs.LogRecords.{AreIn, LogRecord, StandsAt, home_of}
use Rattle.xr_commit.specs.Operations.{KeepsUnmounts}
use Rattle.xr_commit.specs.Refusals.{BreaksUnmounts}
use Rattle.xr_commit.specs.ReadBodies.{IsInLog}
use Rattle.xr_commit.specs.HeadLaws.{length-heads, nth}

pub one_of : (log : List ℕ) (heads : List Head) (records : List LogRecord) (i : ℕ) (h : Head) → AreIn log heads records → i < length heads → h ≡ get_or heads i h
    → IsInLog log h (nth records i h)
one_of log heads records i h a within is =
    let here : i < length records = subst (λ (n : ℕ). i < n) (length-heads log heads records a) within in
    let same : (nth records i h).head ≡ h =
    sym (get_or-map (λ (r : LogRecord). r.head) records i (record { head = h; body = [] }) h here) ∙ sym (is ∙ ap (λ (hs : List Head). get_or hs i h) a.heads_are) in
    record { stands = subst (λ (x : Head). StandsAt log x.lsn.sector (nth records i h)) same (a.each i (record { head = h; body = [] }) here); head_is = same }

pub one_more : (P : LogRecord → Type 0) (records : List LogRecord) (i : ℕ) (h : Head) → i < length records → All P (take i records) → P (nth records i h)
    → All P (take (i + 1) records)
one_more P records i h within all p = subst (All P) (sym (take_more records i (record { head = h; body = [] }) within)) (All-push P (take i records) (nth records i h) all p)

pub breaks_at : (log : List ℕ) (heads : List Head) (records : List LogRecord) (i : ℕ) (h : Head) (fault : ScanFault) → AreIn log heads records → i < length heads
    → h ≡ get_or heads i h → All KeepsUnmounts (take i records) → ((r : LogRecord) → IsInLog log h r → (KeepsUnmounts r → ⊥) × (fault ≡ Place (home_of h)))
    → BreaksUnmounts records fault
breaks_at log heads records i h fault a within is all wrong =
    let it = one_of log heads records i h a within is in
    let p = wrong (nth records i h) it in
    record {
      r = nth records i h;
      first = record {
        before = take i records;
        after = drop (suc i) records;
        records_are = split_at records i (record { head = h; body = [] }) (subst (λ (n : ℕ). i < n) (length-heads log heads records a) within);
        each = all;
        lacks = p.0;
      };
      named = p.1 ∙ ap (λ (x : Head). Place (home_of x)) (sym it.head_is);
    }
