-- What reading one more record comes to.
use Rattle.std.proofs.Common.{◌≡◌, ℕ, suc, ◌+◌, ◌<◌, ◌∙◌, List, [], ◌∷◌, ◌++◌, length, get_or, take, drop, sum_by, sym, ap, subst, inr}
use Rattle.std.proofs.lemmas.List.{append-nil, take_more}
use Rattle.std.proofs.lemmas.Grind.{flat_map-append}
use Rattle.std.proofs.lemmas.List.Elements.{All-push}
use Rattle.std.proofs.Math.Seq.{split_at}
use Rattle.xr_record.specs.declared.entry.Entry.{Entry}
use Rattle.xr_record.specs.declared.fault.FeedFault.TheVariants.{Op}
use Rattle.xr_record.specs.declared.head.Head.{Head}
use Rattle.xr_record.specs.declared.rules.OpKind.{OpKind}
use Rattle.xr_record.specs.OneWayLaws.{one_reading}
use Rattle.xr_record.specs.Reading.{IsFaultOf, Reading, Reads, is_open}
use Rattle.xr_record.specs.Rules.{phase_of}
use Rattle.xr_commit.specs.Entries.{HasEntries, joined_bodies}
use Rattle.xr_commit.specs.LogRecords.{AreIn, LogRecord, home_of}
use Rattle.xr_commit.specs.Operations.{HoldsOperations, headers_of, operation_len}
use Rattle.xr_commit.specs.Refusals.{BreaksOperations, IsWrongAfter, OrNoMemory}
use Rattle.xr_commit.specs.declared.fault.ScanFault.{ScanFault}
use Rattle.xr_commit.specs.declared.fault.ScanFault.TheVariants.{Operation}
use Rattle.xr_commit.proofs.ChainLemmas.{no_memory_too}
use Rattle.xr_commit.proofs.RecordLemmas.{one_of}
use Rattle.xr_commit.specs.ReadBodies.{IsWrongRecord, ReadsRecord, HaveBeenRead, IsInLog}
use Rattle.xr_commit.specs.HeadLaws.{length-heads, nth}

pub joined_more : (before : List LogRecord) (r : LogRecord) → joined_bodies (before ++ r ∷ []) ≡ joined_bodies before ++ r.body
joined_more before r = flat_map-append (λ (x : LogRecord). x.body) before (r ∷ []) ∙ ap (λ (b : List ℕ). joined_bodies before ++ b) (append-nil r.body)

pub holds_operations : (r : LogRecord) (head : Head) (body : List ℕ) (operations bytes : ℕ) → r.head ≡ head → r.body ≡ body
    → operations ≡ length (headers_of body) → bytes ≡ sum_by operation_len (headers_of body) → bytes ≡ length body → operations ≡ head.ops → HoldsOperations r
holds_operations r head body operations bytes head_is body_is number sum whole ops = record {
  whole = ap (λ (b : List ℕ). sum_by operation_len (headers_of b)) body_is ∙ sym sum ∙ whole ∙ ap length (sym body_is);
  number = ap (λ (b : List ℕ). length (headers_of b)) body_is ∙ sym number ∙ ops ∙ ap (λ (h : Head). h.ops) (sym head_is);
}

pub reads_on : (r : LogRecord) (body : List ℕ) (before : List LogRecord) (entries more all : List Entry) (old new : Reading) → r.body ≡ body → HoldsOperations r
    → all ≡ entries ++ more → ((bytes : List ℕ) (es : List Entry) → Reads bytes es old → Reads (bytes ++ body) (es ++ more) new)
    → HaveBeenRead before entries old → HaveBeenRead (before ++ r ∷ []) all new
reads_on r body before entries more all old new body_is holds all_are feed so_far = record {
  each = All-push HoldsOperations before r so_far.each holds;
  reads = subst (λ (es : List Entry). Reads (joined_bodies (before ++ r ∷ [])) es new) (sym all_are)
      (subst (λ (bs : List ℕ). Reads bs (entries ++ more) new) (ap (λ (b : List ℕ). joined_bodies before ++ b) (sym body_is) ∙ sym (joined_more before r))
      (feed (joined_bodies before) entries so_far.reads));
}

pub wrong_here : (r : LogRecord) (body : List ℕ) (before : List LogRecord) (entries : List Entry) (old : Reading) (place : ℕ) (kind : OpKind) → r.body ≡ body
    → ((bytes : List ℕ) (es : List Entry) → Reads bytes es old → IsFaultOf (bytes ++ body) (Op place kind)) → HaveBeenRead before entries old → IsWrongAfter before r
wrong_here r body before entries old place kind body_is feed so_far =
    let f = subst (λ (b : List ℕ). IsFaultOf (joined_bodies before ++ b) (Op place kind)) (sym body_is) (feed (joined_bodies before) entries so_far.reads) in
    inr (f.0, kind, f.1)

pub read_more : (log : List ℕ) (heads : List Head) (records : List LogRecord) (i : ℕ) (h : Head) (body : List ℕ) (entries all : List Entry) (old new : Reading)
    → AreIn log heads records → i < length heads → h ≡ get_or heads i h → ((r : LogRecord) → IsInLog log h r → body ≡ r.body)
    → ((r : LogRecord) → r.head ≡ h → r.body ≡ body → ReadsRecord r old entries new all) → HaveBeenRead (take i records) entries old → HaveBeenRead (take (i + 1) records) all new
read_more log heads records i h body entries all old new are within is body_is reads so_far =
    let it = one_of log heads records i h are within is in
    subst (λ (rs : List LogRecord). HaveBeenRead rs all new) (sym (take_more records i (record { head = h; body = [] }) (subst (λ (n : ℕ). i < n) (length-heads log heads records are) within)))
    (reads (nth records i h) it.head_is (sym (body_is (nth records i h) it)) (take i records) so_far)

pub breaks_on : (log : List ℕ) (heads : List Head) (records : List LogRecord) (i : ℕ) (h : Head) (body : List ℕ) (entries : List Entry) (old : Reading) (fault : ScanFault)
    → AreIn log heads records → i < length heads → h ≡ get_or heads i h → ((r : LogRecord) → IsInLog log h r → body ≡ r.body) → HaveBeenRead (take i records) entries old
    → (fault ≡ Operation (home_of h)) × ((r : LogRecord) → r.head ≡ h → r.body ≡ body → IsWrongRecord r old entries) → BreaksOperations records fault
breaks_on log heads records i h body entries old fault are within is body_is so_far wrong =
    let it = one_of log heads records i h are within is in
    let reads = so_far.reads.reads in
    record {
      before = take i records;
      r = nth records i h;
      after = drop (suc i) records;
      records_are = split_at records i (record { head = h; body = [] }) (subst (λ (n : ℕ). i < n) (length-heads log heads records are) within);
      each = so_far.each;
      pieces = reads.pieces;
      o = reads.o;
      rest = old.held.rest;
      stream = reads.stream;
      wrong = wrong.1 (nth records i h) it.head_is (sym (body_is (nth records i h) it)) (take i records) so_far;
      named = wrong.0 ∙ ap (λ (x : Head). Operation (home_of x)) (sym it.head_is);
    }

pub breaks_or_wants : (log : List ℕ) (heads : List Head) (i : ℕ) (h : Head) (body : List ℕ) (entries : List Entry) (old : Reading) (fault : ScanFault)
    → i < length heads → h ≡ get_or heads i h → ((r : LogRecord) → IsInLog log h r → body ≡ r.body)
    → ((records : List LogRecord) → AreIn log heads records → HaveBeenRead (take i records) entries old)
    → OrNoMemory (λ (f : ScanFault). (f ≡ Operation (home_of h)) × ((r : LogRecord) → r.head ≡ h → r.body ≡ body → IsWrongRecord r old entries)) fault
    → OrNoMemory (λ (f : ScanFault). (records : List LogRecord) → AreIn log heads records → BreaksOperations records f) fault
breaks_or_wants log heads i h body entries old fault within is body_is so_far outside =
    no_memory_too (λ (f : ScanFault). (f ≡ Operation (home_of h)) × ((r : LogRecord) → r.head ≡ h → r.body ≡ body → IsWrongRecord r old entries))
    (λ (f : ScanFault). (records : List LogRecord) → AreIn log heads records → BreaksOperations records f)
    (λ f wrong records are. breaks_on log heads records i h body entries old f are within is body_is (so_far records are) wrong) fault outside

pub entries_of : (records : List LogRecord) (entries : List Entry) (reader : Reading) → HaveBeenRead records entries reader → HasEntries records entries
entries_of records entries reader read =
    let reads = read.reads.reads in
    record { each = read.each; pieces = reads.pieces; o = reads.o; rest = reader.held.rest; stream = reads.stream; entries_are = reads.entries_are }

-- and whether they end within a transaction
pub ends_of : (records : List LogRecord) (entries also : List Entry) (reader : Reading) → HaveBeenRead records entries reader → (said : HasEntries records also)
    → is_open reader.held.phase ≡ is_open (phase_of said.o)
ends_of records entries also reader read said =
    let reads = read.reads.reads in
    ap is_open (reads.phase_is ∙ ap phase_of (one_reading (joined_bodies records) reads.pieces said.pieces reads.o said.o reader.held.rest said.rest reads.stream said.stream).1)
