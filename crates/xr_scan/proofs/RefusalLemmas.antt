-- An image with a live stream is not refused, and any other is refused in one way.
use Rattle.std.proofs.Common.{◌≡◌, ℕ, ◌+◌, ◌∙◌, Some, List, [], ◌∷◌, ◌++◌, All, sym, ap, subst, inl, inr, false}
use Rattle.std.proofs.lemmas.Grind.{flat_map-append}
use Rattle.std.proofs.lemmas.List.{append_assoc}
use Rattle.xr_base.specs.Fields.{AreBytes}
use Rattle.xr_items.specs.declared.item.ItemFault.{ItemFault}
use Rattle.xr_record.specs.declared.entry.Entry.{Entry}
use Rattle.xr_record.specs.declared.entry.Entry.TheVariants.{Trans, Unmount}
use Rattle.xr_record.specs.declared.head.Head.{Head}
use Rattle.xr_record.specs.Rules.{IsStream}
use Rattle.xr_record.specs.Stream.{Open, Piece}
use Rattle.xr_commit.specs.declared.fault.ScanFault.{ScanFault}
use Rattle.xr_commit.specs.declared.fault.ScanFault.TheVariants.{Operation, Place}
use Rattle.xr_commit.specs.BadItems.{BreaksItems, IsBadRegion, refusal_at}
use Rattle.xr_commit.specs.Entries.{HasEntries, joined_bodies}
use Rattle.xr_commit.specs.GoodItems.{EntriesAreGood, RegionsAreGood}
use Rattle.xr_commit.specs.LiveStream.{IsLiveIn}
use Rattle.xr_commit.specs.LogRecords.{LogRecord, home_of, log_of}
use Rattle.xr_commit.specs.Operations.{HoldsOperations, KeepsUnmounts}
use Rattle.xr_commit.specs.RegionHomes.{home_of_region, regions_in}
use Rattle.xr_commit.specs.Refusals.{BreaksOperations, BreaksUnmounts, IsFirstWithout, IsWrongAfter, RefusesBodies, RefusesHead, RefusesLog, RefusesLiveRecords}
use Rattle.xr_commit.specs.OneRecordLaws.{one_chain, one_head}
use Rattle.xr_scan.specs.RefusalLaws.{IsOneRefusal, LiveIsTaken}
use Rattle.xr_scan.proofs.BadStreamLemmas.{front_is_right}
use Rattle.xr_scan.proofs.ChainRefusalLemmas.{chain_or_refused, chain_refused_once}
use Rattle.xr_scan.proofs.FirstBadLemmas.{bad_region_once, good_at, good_or_bad_region, one_last}
use Rattle.xr_scan.proofs.FirstPartLemmas.{After, Before, Cuts, Same, all_at, cuts}
use Rattle.xr_scan.proofs.StateLemmas.{one_said, one_super}

-- Unmounts

first_once : (P : LogRecord → Type 0) (records : List LogRecord) (r s : LogRecord) → IsFirstWithout P records r → IsFirstWithout P records s → r ≡ s
first_once P records r s a b = step (cuts a.before b.before a.after b.after r s (sym a.records_are ∙ b.records_are)) where
  step : Cuts a.before r b.before s → r ≡ s
  step (Same front at) = at
  step (Before w) = absurd (a.lacks (all_at P a.before w.rest r (subst (All P) w.are b.each)))
  step (After w) = absurd (b.lacks (all_at P b.before w.rest s (subst (All P) w.are a.each)))

kept_or_broken : (records : List LogRecord) (fault : ScanFault) → All KeepsUnmounts records → BreaksUnmounts records fault → ⊥
kept_or_broken records fault all broken =
    broken.first.lacks (all_at KeepsUnmounts broken.first.before broken.first.after broken.r (subst (All KeepsUnmounts) broken.first.records_are all))

-- Operations

joined_parts : (before after : List LogRecord) (r : LogRecord) → joined_bodies (before ++ r ∷ after) ≡ (joined_bodies before ++ r.body) ++ joined_bodies after
joined_parts before after r =
    flat_map-append (λ (x : LogRecord). x.body) before (r ∷ after) ∙ sym (append_assoc (joined_bodies before) r.body (joined_bodies after))

right_or_wrong : (records before after : List LogRecord) (r : LogRecord) (pieces : List Piece) (o : Open) (rest : List ℕ) → records ≡ before ++ r ∷ after
    → All HoldsOperations records → IsStream (joined_bodies records) pieces o rest → IsWrongAfter before r → ⊥
right_or_wrong records before after r pieces o rest are each right (inl lacks) = lacks (all_at HoldsOperations before after r (subst (All HoldsOperations) are each))
right_or_wrong records before after r pieces o rest are each right (inr (place, kind, bad)) =
    front_is_right (joined_bodies before ++ r.body) (joined_bodies after) pieces o rest place kind
    (subst (λ (bytes : List ℕ). IsStream bytes pieces o rest) (ap joined_bodies are ∙ joined_parts before after r) right) bad

operations_once : (records : List LogRecord) (one two : ScanFault) → BreaksOperations records one → BreaksOperations records two → one ≡ two
operations_once records one two a b = step (cuts a.before b.before a.after b.after a.r b.r (sym a.records_are ∙ b.records_are)) where
  step : Cuts a.before a.r b.before b.r → one ≡ two
  step (Same front at) = a.named ∙ ap (λ (r : LogRecord). Operation (home_of r.head)) at ∙ sym b.named
  step (Before w) = absurd (right_or_wrong b.before a.before w.rest a.r b.pieces b.o b.rest w.are b.each b.stream a.wrong)
  step (After w) = absurd (right_or_wrong a.before b.before w.rest b.r a.pieces a.o a.rest w.are a.each a.stream b.wrong)

-- Items

abbrev regions_of : Entry → List (List ℕ)
regions_of (Trans tid regions) = regions
regions_of Unmount = []

abbrev IsBad : List ℕ → ℕ → List (List ℕ) → ℕ → Type 0
IsBad uuid last regions n = (why : ItemFault) × IsBadRegion uuid last regions n why

good_or_broken : (uuid : List ℕ) (entries before after : List Entry) (tid : ℕ) (regions : List (List ℕ)) (last m n : ℕ) (bad : IsBad uuid last regions n)
    → entries ≡ before ++ Trans tid regions ∷ after → EntriesAreGood uuid 0 entries m → EntriesAreGood uuid 0 before last → ⊥
good_or_broken uuid entries before after tid regions last m n bad are good front =
    let at = good_at uuid 0 before tid regions after m (subst (λ (es : List Entry). EntriesAreGood uuid 0 es m) are good) in
    let same : at.mid ≡ last = one_last uuid 0 before at.mid last at.front front in
    good_or_bad_region uuid last at.end regions n bad.0 (subst (λ (k : ℕ). RegionsAreGood uuid k regions at.end) same at.own) bad.1

items_or_broken : (uuid : List ℕ) (records : List LogRecord) (entries : List Entry) (m : ℕ) (fault : ScanFault) → HasEntries records entries → EntriesAreGood uuid 0 entries m
    → BreaksItems uuid records fault → ⊥
items_or_broken uuid records entries m fault said good b =
    good_or_broken uuid entries b.before b.after b.tid b.regions b.last m b.n (b.why, b.bad) (one_said records entries b.entries said b.said ∙ b.entries_are) good b.good

some_is : (m n : ℕ) → Some m ≡ Some n → m ≡ n
some_is m n e = cc

items_once : (uuid : List ℕ) (records : List LogRecord) (one two : ScanFault) → BreaksItems uuid records one → BreaksItems uuid records two → one ≡ two
items_once uuid records one two a b =
    step (cuts a.before b.before a.after b.after (Trans a.tid a.regions) (Trans b.tid b.regions)
    (sym a.entries_are ∙ one_said records a.entries b.entries a.said b.said ∙ b.entries_are)) where
      step : Cuts a.before (Trans a.tid a.regions) b.before (Trans b.tid b.regions) → one ≡ two
      step (Same front at) =
          let regions : a.regions ≡ b.regions = ap regions_of at in
          let last : a.last ≡ b.last = one_last uuid 0 b.before a.last b.last (subst (λ (es : List Entry). EntriesAreGood uuid 0 es a.last) front a.good) b.good in
          let bad = subst (λ (k : ℕ). IsBadRegion uuid k b.regions a.n a.why) last (subst (λ (rs : List (List ℕ)). IsBadRegion uuid a.last rs a.n a.why) regions a.bad) in
          let same = bad_region_once uuid b.last b.regions a.n b.n a.why b.why bad b.bad in
          let place : regions_in a.before + a.n ≡ regions_in b.before + b.n = ap (λ (es : List Entry). regions_in es + a.n) front ∙ ap (λ (k : ℕ). regions_in b.before + k) same.place in
          let block : a.block ≡ b.block = some_is a.block b.block (sym a.home ∙ ap (home_of_region false records) place ∙ b.home) in
          a.named ∙ same.fault a.block ∙ ap (refusal_at b.why) block ∙ sym b.named
      step (Before w) = absurd (good_or_broken uuid b.before a.before w.rest a.tid a.regions a.last b.last a.n (a.why, a.bad) w.are b.good a.good)
      step (After w) = absurd (good_or_broken uuid a.before b.before w.rest b.tid b.regions b.last a.last b.n (b.why, b.bad) w.are a.good b.good)

-- The layers

said_or_wrong : (records : List LogRecord) (entries : List Entry) (fault : ScanFault) → HasEntries records entries → BreaksOperations records fault → ⊥
said_or_wrong records entries fault said b = right_or_wrong records b.before b.after b.r said.pieces said.o said.rest b.records_are said.each said.stream b.wrong

bodies_once : (uuid : List ℕ) (records : List LogRecord) (one two : ScanFault) → RefusesBodies uuid records one → RefusesBodies uuid records two → one ≡ two
bodies_once uuid records one two (inl a) (inl b) =
    a.named ∙ ap (λ (r : LogRecord). Place (home_of r.head)) (first_once KeepsUnmounts records a.r b.r a.first b.first) ∙ sym b.named
bodies_once uuid records one two (inl a) (inr (all, b)) = absurd (kept_or_broken records one all a)
bodies_once uuid records one two (inr (all, a)) (inl b) = absurd (kept_or_broken records two all b)
bodies_once uuid records one two (inr (all, inl a)) (inr (all', inl b)) = operations_once records one two a b
bodies_once uuid records one two (inr (all, inl a)) (inr (all', inr b)) = absurd (said_or_wrong records b.entries one b.said a)
bodies_once uuid records one two (inr (all, inr a)) (inr (all', inl b)) = absurd (said_or_wrong records a.entries two a.said b)
bodies_once uuid records one two (inr (all, inr a)) (inr (all', inr b)) = items_once uuid records one two a b

records_once : (uuid : List ℕ) (head : Head) (records : List LogRecord) (one two : ScanFault) → RefusesLiveRecords uuid head records one → RefusesLiveRecords uuid head records two → one ≡ two
records_once uuid head records one two (inl (none, named)) (inl (none', named')) = named ∙ sym named'
records_once uuid head records one two (inl (none, named)) (inr (reserve, b)) = absurd (none reserve)
records_once uuid head records one two (inr (reserve, a)) (inl (none', named')) = absurd (none' reserve)
records_once uuid head records one two (inr (reserve, a)) (inr (reserve', b)) = bodies_once uuid records one two a b

head_once : (uuid log : List ℕ) (head : LogRecord) (one two : ScanFault) → AreBytes log → RefusesHead uuid log head one → RefusesHead uuid log head two → one ≡ two
head_once uuid log head one two all (inl a) (inl b) = chain_refused_once uuid log head one two all a b
head_once uuid log head one two all (inl a) (inr (records, chain, b)) = absurd (chain_or_refused uuid log head records one all chain a)
head_once uuid log head one two all (inr (records, chain, a)) (inl b) = absurd (chain_or_refused uuid log head records two all chain b)
head_once uuid log head one two all (inr (records, chain, a)) (inr (others, chain', b)) =
    records_once uuid head.head others one two
    (subst (λ (rs : List LogRecord). RefusesLiveRecords uuid head.head rs one) (one_chain uuid log head records others chain chain') a) b

log_once : (uuid log : List ℕ) (one two : ScanFault) → AreBytes log → RefusesLog uuid log one → RefusesLog uuid log two → one ≡ two
log_once uuid log one two all (inl (none, named)) (inl (none', named')) = named ∙ sym named'
log_once uuid log one two all (inl (none, named)) (inr (head, newest, b)) = absurd (none head.head.lsn.sector head newest.at)
log_once uuid log one two all (inr (head, newest, a)) (inl (none', named')) = absurd (none' head.head.lsn.sector head newest.at)
log_once uuid log one two all (inr (head, newest, a)) (inr (other, newest', b)) =
    head_once uuid log other one two all (subst (λ (r : LogRecord). RefusesHead uuid log r one) (one_head uuid log head other newest newest') a) b

pub one_refusal : IsOneRefusal
one_refusal image one two readable (inl (none, named)) (inl (none', named')) = named ∙ sym named'
one_refusal image one two readable (inl (none, named)) (inr (uuid, superblock, b)) = absurd (none uuid superblock)
one_refusal image one two readable (inr (uuid, superblock, a)) (inl (none', named')) = absurd (none' uuid superblock)
one_refusal image one two (inl none) (inr (uuid, superblock, a)) (inr (other, also, b)) = absurd (none uuid superblock)
one_refusal image one two (inr all) (inr (uuid, superblock, a)) (inr (other, also, b)) =
    log_once other (log_of image) one two all (subst (λ (u : List ℕ). RefusesLog u (log_of image) one) (one_super image uuid other superblock also) a) b

live_or_bodies : (uuid log : List ℕ) (heads : List Head) (entries : List Entry) (fault : ScanFault) → (live : IsLiveIn uuid log heads entries)
    → RefusesBodies uuid live.records fault → ⊥
live_or_bodies uuid log heads entries fault live (inl company) = kept_or_broken live.records fault live.unmounts company
live_or_bodies uuid log heads entries fault live (inr (all, inl wrong)) = said_or_wrong live.records entries fault live.entries_are wrong
live_or_bodies uuid log heads entries fault live (inr (all, inr bad)) = items_or_broken uuid live.records entries live.last fault live.entries_are live.items bad

live_or_records : (uuid log : List ℕ) (heads : List Head) (entries : List Entry) (fault : ScanFault) → (live : IsLiveIn uuid log heads entries)
    → RefusesLiveRecords uuid live.head.head live.records fault → ⊥
live_or_records uuid log heads entries fault live (inl (none, named)) = none live.reserve
live_or_records uuid log heads entries fault live (inr (reserve, bodies)) = live_or_bodies uuid log heads entries fault live bodies

live_or_head : (uuid log : List ℕ) (heads : List Head) (entries : List Entry) (fault : ScanFault) → AreBytes log → (live : IsLiveIn uuid log heads entries)
    → RefusesHead uuid log live.head fault → ⊥
live_or_head uuid log heads entries fault all live (inl broken) = chain_or_refused uuid log live.head live.records fault all live.chain broken
live_or_head uuid log heads entries fault all live (inr (records, chain, refused)) =
    live_or_records uuid log heads entries fault live
    (subst (λ (rs : List LogRecord). RefusesLiveRecords uuid live.head.head rs fault) (one_chain uuid log live.head records live.records chain live.chain) refused)

live_or_log : (uuid log : List ℕ) (heads : List Head) (entries : List Entry) (fault : ScanFault) → AreBytes log → IsLiveIn uuid log heads entries → RefusesLog uuid log fault → ⊥
live_or_log uuid log heads entries fault all live (inl (none, named)) = none live.head.head.lsn.sector live.head live.newest.at
live_or_log uuid log heads entries fault all live (inr (head, newest, refused)) =
    live_or_head uuid log heads entries fault all live
    (subst (λ (r : LogRecord). RefusesHead uuid log r fault) (one_head uuid log head live.head newest live.newest) refused)

pub live_is_taken : LiveIsTaken
live_is_taken image uuid heads entries fault all superblock live (inl (none, named)) = none uuid superblock
live_is_taken image uuid heads entries fault all superblock live (inr (other, also, refused)) =
    live_or_log uuid (log_of image) heads entries fault all live
    (subst (λ (u : List ℕ). RefusesLog u (log_of image) fault) (one_super image other uuid also superblock) refused)
