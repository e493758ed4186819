-- The live stream behind an unmount is that record alone.
use Rattle.std.proofs.Common.{◌≡◌, ◌∙◌, ℕ, suc, ◌≤◌, List, [], ◌∷◌, All, map, refl, sym, ap, subst, lit<, arith}
use Rattle.std.proofs.lemmas.List.{append-nil}
use Rattle.xr_base.specs.Image.{block_of}
use Rattle.xr_record.specs.declared.entry.Entry.{Entry}
use Rattle.xr_record.specs.declared.entry.Entry.TheVariants.{Unmount}
use Rattle.xr_record.specs.declared.head.Head.{Head}
use Rattle.xr_record.specs.declared.head.Lsn.{Lsn}
use Rattle.xr_record.specs.Lsn.{lsn_number}
use Rattle.xr_record.specs.OneWayLaws.{one_reading}
use Rattle.xr_record.specs.Operations.{operation_bytes, raw_operation}
use Rattle.xr_record.specs.Rules.{IsStream}
use Rattle.xr_record.specs.Stream.{Between, Piece, Unmounting, entry, unmount}
use Rattle.xr_commit.specs.Chain.{IsTrail}
use Rattle.xr_commit.specs.Entries.{HasEntries, joined_bodies}
use Rattle.xr_commit.specs.LiveStream.{IsLiveIn}
use Rattle.xr_commit.specs.LogRecords.{LogRecord}
use Rattle.xr_commit.specs.LoggedItems.{Logged}
use Rattle.xr_commit.specs.Operations.{HoldsUnmount, KeepsUnmounts}
use Rattle.xr_commit.specs.Pending.{pending}
use Rattle.xr_scan.specs.CleanLaws.{CleanHoldsItsBlocks}
use Rattle.xr_scan.specs.LoggedEntries.{LogAll, logged_items}
use Rattle.xr_scan.specs.Replayed.{replayed}
use Rattle.xr_commit.specs.LogEnds.{IsCleanRecord}
use Rattle.xr_scan.specs.State.{works_of}

unfoldable pub unmount_body : List ℕ
unmount_body = operation_bytes unmount

pub streams : IsStream unmount_body (Unmounting ∷ []) Between []
unfolding unmount_body raw_operation
streams = record {
  whole = refl;
  each = (tt, tt);
  good = tt;
  partial = record { less = λ body. (let h = body.header in absurd (omega (arith, h))); right = λ long. absurd (omega (arith, long)) };
}

-- what all records of a trail have, the newest has
pub trail_ends : (P : LogRecord → Type 0) (uuid log : List ℕ) (tail : Lsn) (newest oldest : LogRecord) (later : List LogRecord) → IsTrail uuid log tail newest oldest later
    → All P (oldest ∷ later) → P newest
trail_ends P uuid log tail newest oldest [] trail all = subst P trail (all 0 oldest (lit< tt))
trail_ends P uuid log tail newest oldest (next ∷ later) trail all =
    trail_ends P uuid log tail newest next later trail.1 (λ k d below. all (suc k) d (omega (arith, below)))

trail_rises : (uuid log : List ℕ) (tail : Lsn) (newest oldest : LogRecord) (later : List LogRecord) → IsTrail uuid log tail newest oldest later
    → lsn_number oldest.head.lsn ≤ lsn_number newest.head.lsn
trail_rises uuid log tail newest oldest [] trail = let e = ap (λ (r : LogRecord). lsn_number r.head.lsn) trail in omega (arith, e)
trail_rises uuid log tail newest oldest (next ∷ later) trail =
    let h = trail.0.older in let rest = trail_rises uuid log tail newest next later trail.1 in omega (arith, h, rest)

-- a newest record that is its own tail is the only one
pub alone : (uuid log : List ℕ) (tail : Lsn) (newest oldest : LogRecord) (later : List LogRecord) → IsTrail uuid log tail newest oldest later
    → oldest.head.lsn ≡ newest.head.lsn → oldest ∷ later ≡ newest ∷ []
alone uuid log tail newest oldest [] trail same = ap (λ (r : LogRecord). r ∷ []) trail
alone uuid log tail newest oldest (next ∷ later) trail same =
    let e = ap lsn_number same in let h = trail.0.older in let rest = trail_rises uuid log tail newest next later trail.1 in absurd (omega (arith, e, h, rest))

holds_unmount : HoldsUnmount unmount_body
unfolding unmount_body raw_operation
holds_unmount = refl

body_is : (r : LogRecord) → IsCleanRecord r → r.body ≡ unmount_body
unfolding unmount_body
body_is r clean = clean

-- the records and the entries of a live stream that ends in an unmount
pub record IsUnmounted (uuid log : List ℕ) (heads : List Head) (entries : List Entry) (live : IsLiveIn uuid log heads entries) : Type 0 where
  pub alone : live.records ≡ live.head ∷ []
  pub said : entries ≡ Unmount ∷ []

said_alone : (r : LogRecord) (entries : List Entry) → r.body ≡ unmount_body → HasEntries (r ∷ []) entries → entries ≡ Unmount ∷ []
said_alone r entries body said =
    let same : joined_bodies (r ∷ []) ≡ unmount_body = append-nil r.body ∙ body in
    said.entries_are ∙ ap (λ (ps : List Piece). map entry ps)
    (one_reading unmount_body said.pieces (Unmounting ∷ []) said.o Between said.rest [] (subst (λ (bytes : List ℕ). IsStream bytes said.pieces said.o said.rest) same said.stream) streams).0

pub unmounted : (uuid log : List ℕ) (heads : List Head) (entries : List Entry) (live : IsLiveIn uuid log heads entries) → IsCleanRecord live.head
    → IsUnmounted uuid log heads entries live
unmounted uuid log heads entries live clean =
    let chain = live.chain in
    let body = body_is live.head clean in
    let keeps : KeepsUnmounts live.head =
    trail_ends KeepsUnmounts uuid log live.head.head.tail live.head chain.oldest chain.later chain.trail (subst (All KeepsUnmounts) chain.records_are live.unmounts) in
    let own = (keeps (subst HoldsUnmount (sym body) holds_unmount)).own_tail in
    let records : live.records ≡ live.head ∷ [] =
    chain.records_are ∙ alone uuid log live.head.head.tail live.head chain.oldest chain.later chain.trail (chain.ends ∙ own) in
    record { alone = records; said = said_alone live.head entries body (subst (λ (rs : List LogRecord). HasEntries rs entries) records live.entries_are) }

-- and it ends between two transactions
pub ends_between : (uuid log : List ℕ) (heads : List Head) (entries : List Entry) (live : IsLiveIn uuid log heads entries) → IsCleanRecord live.head → live.entries_are.o ≡ Between
ends_between uuid log heads entries live clean =
    let e = live.entries_are in
    let same : joined_bodies live.records ≡ unmount_body =
    ap joined_bodies (unmounted uuid log heads entries live clean).alone ∙ append-nil live.head.body ∙ body_is live.head clean in
    (one_reading unmount_body e.pieces (Unmounting ∷ []) e.o Between e.rest [] (subst (λ (bytes : List ℕ). IsStream bytes e.pieces e.o e.rest) same e.stream) streams).1

pub clean_holds_its_blocks : CleanHoldsItsBlocks
clean_holds_its_blocks image state holds clean =
    let only = unmounted _ _ holds.heads holds.entries holds.live_in clean in
    let none : holds.logged ≡ [] = subst (λ (es : List Entry). LogAll es holds.logged) only.said holds.log_all in
    record {
      logged = none;
      works = holds.works ∙ ap (λ (ls : List Logged). works_of (pending (logged_items ls))) none;
      blocks = λ block has. holds.blocks block has ∙ ap (replayed block (block_of image block)) none;
    }
