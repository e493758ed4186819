-- That what an image holds stays, or goes on by one record.
use Rattle.std.proofs.Common.{◌≡◌, ◌⊎◌, ℕ, ◌*◌, ◌≤◌, List, [], ◌∷◌, ◌++◌, All, length, refl, sym, ap, subst, arith, ◌∙◌, inl, inr}
use Rattle.std.specs.List.{AllByRecursion}
use Rattle.std.proofs.lemmas.List.Elements.{recursion_from_All, All-nil, All-push}
use Rattle.xr_base.specs.Image.{block_of}
use Rattle.xr_base.specs.declared.geometry.TheConstants.{BLOCK_BYTES, FIRST_FILE_BLOCK, SECTOR_BYTES, SECTORS}
use Rattle.xr_disk.specs.Crash.{Crash}
use Rattle.xr_record.specs.declared.head.Head.{Head}
use Rattle.xr_record.specs.declared.head.Lsn.{Lsn}
use Rattle.xr_commit.specs.Chain.{IsLiveTrail, IsPreviousRecord, IsTrail}
use Rattle.xr_commit.specs.GoodItems.{EntriesAreGood}
use Rattle.xr_commit.specs.LogRecords.{HasSuper, IsHead, LogRecord, StandsAt, heads_of, log_of}
use Rattle.xr_commit.specs.LoggedItems.{Logged}
use Rattle.xr_commit.specs.Operations.{KeepsUnmounts}
use Rattle.xr_commit.specs.WholeRecordLaws.{StandsIn, chain_stands, ends_within}
use Rattle.xr_scan.specs.FalseRecords.{log_place}
use Rattle.xr_scan.specs.Replayed.{replayed}
use Rattle.xr_scan.specs.State.{HasBlock, Holds, State}
use Rattle.xr_log.specs.Appending.{GoesOnFrom, HoldsUnder, IsAppended}
use Rattle.xr_log.specs.TornWrites.{IsNextRecord, IsTornWrite, IsWholeWrite, LieApart, bytes_of}
use Rattle.xr_log.proofs.OutsideLemmas.{above_same, below_same}
use Rattle.xr_log.proofs.PositionLemmas.{IsPlacedApart, chain_apart, reserve_left}
use Rattle.xr_log.proofs.StandingLemmas.{length-bytes_of, length-log}
use Rattle.xr_log.proofs.TornLemmas.{leaves_a_head, leaves_others}

-- blocks of a state lie after the log
after_log : (state : State) (block : ℕ) → HasBlock state block → FIRST_FILE_BLOCK ≤ block
after_log state block (inl core) = core.first
after_log state block (inr (inl pool)) = pool.first
after_log state block (inr (inr group)) = let e = group.first in omega (arith, e)

pub block_stays : (uuid image : List ℕ) (head next : LogRecord) (c : Crash) (state : State) (block : ℕ) → IsTornWrite uuid image head next c → HasBlock state block
    → block_of c.image block ≡ block_of image block
block_stays uuid image head next c state block w has =
    let l = length-bytes_of next w.next_is.long w.next_is.good w.next_is.stored in
    let within = w.next_is.within in
    let behind = after_log state block has in
    above_same (log_place next.head.lsn.sector) (length (bytes_of next)) (BLOCK_BYTES * block) BLOCK_BYTES image c.image w.torn.outside (omega (arith, l, within, behind))

super_stays : (uuid image : List ℕ) (head next : LogRecord) (c : Crash) → IsTornWrite uuid image head next c → HasSuper image uuid → HasSuper c.image uuid
super_stays uuid image head next c w has = record {
  whole = has.whole;
  block = below_same (log_place next.head.lsn.sector) (length (bytes_of next)) (BLOCK_BYTES * 0) BLOCK_BYTES image c.image w.torn.outside (omega arith) ∙ has.block;
}

-- a trail stays where its records do
at_prev : (uuid log log' : List ℕ) (tail : Lsn) (named_by : Head) (r : LogRecord) → IsPreviousRecord uuid log tail named_by r → StandsIn log' r
    → IsPreviousRecord uuid log' tail named_by r
at_prev uuid log log' tail named_by r before stands = record {
  at = record { stands = subst (λ (s : ℕ). StandsAt log' s r) before.at.stands.here stands; own = before.at.own };
  older = before.older;
  within = before.within;
}

trail_stays : (uuid log log' : List ℕ) (tail : Lsn) (newest oldest : LogRecord) (later : List LogRecord) → AllByRecursion (StandsIn log') (oldest ∷ later)
    → IsTrail uuid log tail newest oldest later → IsTrail uuid log' tail newest oldest later
trail_stays uuid log log' tail newest oldest [] stand trail = trail
trail_stays uuid log log' tail newest oldest (next ∷ later) stand trail =
    (at_prev uuid log log' tail next.head oldest trail.0 stand.0, trail_stays uuid log log' tail newest next later stand.1 trail.1)

-- and goes on by the next record
trail_on : (uuid log log' : List ℕ) (tail : Lsn) (newest oldest next : LogRecord) (later : List LogRecord) → AllByRecursion (StandsIn log') (oldest ∷ later)
    → IsPreviousRecord uuid log' tail next.head newest → IsTrail uuid log tail newest oldest later → IsTrail uuid log' tail next oldest (later ++ next ∷ [])
trail_on uuid log log' tail newest oldest next [] stand before trail =
    (subst (λ (r : LogRecord). IsPreviousRecord uuid log' tail next.head r) (sym trail) before, refl)
trail_on uuid log log' tail newest oldest next (r ∷ later) stand before trail =
    (at_prev uuid log log' tail r.head oldest trail.0 stand.0, trail_on uuid log log' tail newest r next later stand.1 before trail.1)

all_stay : (uuid image : List ℕ) (head next : LogRecord) (c : Crash) (records : List LogRecord) → IsTornWrite uuid image head next c
    → AllByRecursion (λ (r : LogRecord). LieApart r.head next.head) records → AllByRecursion (StandsIn (log_of image)) records → AllByRecursion (StandsIn (log_of c.image)) records
all_stay uuid image head next c [] w apart stand = stand
all_stay uuid image head next c (r ∷ records) w apart stand =
    (leaves_others uuid image head next r c w apart.0 stand.0, all_stay uuid image head next c records w apart.1 stand.1)

pub placed_apart : (image : List ℕ) (state after : State) (old : Holds image state) (next : LogRecord) (logged : List Logged) → length image ≡ SECTOR_BYTES * SECTORS
    → IsNextRecord state.uuid old.live_in.head next → IsAppended image state old next after logged → IsPlacedApart old.live_in.head.head next.head
placed_apart image state after old next logged long n app = record {
  whole = ends_within (log_of image) old.live_in.head (length-log image long) old.live_in.newest.at.stands;
  within = n.within;
  sector = n.good.sector;
  after = app.place.after;
  fits = app.place.fits;
}

-- the live records stay
live_stay : (image : List ℕ) (state after : State) (old : Holds image state) (next : LogRecord) (logged : List Logged) (c : Crash)
    → IsTornWrite state.uuid image old.live_in.head next c → IsAppended image state old next after logged → AllByRecursion (StandsIn (log_of c.image)) old.live_in.records
live_stay image state after old next logged c w app =
    let x = old.live_in in
    all_stay state.uuid image x.head next c x.records w
    (chain_apart state.uuid (log_of image) x.head x.records next.head (length-log image w.long) x.newest x.chain x.reserve
    (placed_apart image state after old next logged w.long w.next_is app))
    (recursion_from_All (StandsIn (log_of image)) x.records (chain_stands state.uuid (log_of image) x.head x.records x.newest x.chain))

-- torn: the old state
old_stays : (image : List ℕ) (state after : State) (old : Holds image state) (next : LogRecord) (logged : List Logged) (c : Crash)
    → IsTornWrite state.uuid image old.live_in.head next c → IsAppended image state old next after logged → IsHead state.uuid (log_of c.image) old.live_in.head
    → HoldsUnder c.image state old.live_in.head old.live_in.records old.logged
old_stays image state after old next logged c w app head =
    let x = old.live_in in
    let stand = live_stay image state after old next logged c w app in
    record {
      holds = record {
        superblock = super_stays state.uuid image x.head next c w old.superblock;
        heads = old.heads;
        entries = old.entries;
        live_in = record {
          head = x.head;
          newest = head;
          records = x.records;
          chain = record {
            oldest = x.chain.oldest;
            later = x.chain.later;
            records_are = x.chain.records_are;
            trail = trail_stays state.uuid (log_of image) (log_of c.image) x.head.head.tail x.head x.chain.oldest x.chain.later
                (subst (AllByRecursion (StandsIn (log_of c.image))) x.chain.records_are stand) x.chain.trail;
            ends = x.chain.ends;
          };
          reserve = x.reserve;
          unmounts = x.unmounts;
          heads_are = x.heads_are;
          entries_are = x.entries_are;
          last = x.last;
          items = x.items;
        };
        logged = old.logged;
        log_all = old.log_all;
        blocks = λ block has. old.blocks block has ∙ ap (λ (xs : List ℕ). replayed block xs old.logged) (sym (block_stays state.uuid image x.head next c state block w has));
        works = old.works;
      };
      head_is = refl;
      records_are = refl;
      logged_is = refl;
    }

-- whole: the chain of the new one
pub chain_on : (image : List ℕ) (state after : State) (old : Holds image state) (next : LogRecord) (logged : List Logged) (c : Crash)
    → IsTornWrite state.uuid image old.live_in.head next c → (app : IsAppended image state old next after logged)
    → IsLiveTrail state.uuid (log_of c.image) next (app.needed ++ next ∷ [])
chain_on image state after old next logged c w app = go app.needed app.place.goes_on where
  go : (needed : List LogRecord) → GoesOnFrom old.live_in.head old.live_in.records next.head needed → IsLiveTrail state.uuid (log_of c.image) next (needed ++ next ∷ [])
  go needed (inr (none, own)) = record {
    oldest = next;
    later = [];
    records_are = ap (λ (rs : List LogRecord). rs ++ next ∷ []) none;
    trail = refl;
    ends = sym own;
  }
  go needed (inl (all, tail)) =
      let x = old.live_in in
      let stand = live_stay image state after old next logged c w app in
      let before : IsPreviousRecord state.uuid (log_of c.image) x.head.head.tail next.head x.head = record {
        at = record {
          stands = subst (λ (s : ℕ). StandsAt (log_of c.image) s x.head) (sym app.place.prev)
              (leaves_others state.uuid image x.head next x.head c w w.apart x.newest.at.stands);
          own = x.newest.at.own;
        };
        older = w.next_is.newer;
        within = x.newest.at.stands.sealed.good.tail;
      } in
      let trail = trail_on state.uuid (log_of image) (log_of c.image) x.head.head.tail x.head x.chain.oldest next x.chain.later
      (subst (AllByRecursion (StandsIn (log_of c.image))) x.chain.records_are stand) before x.chain.trail in
      record {
        oldest = x.chain.oldest;
        later = x.chain.later ++ next ∷ [];
        records_are = ap (λ (rs : List LogRecord). rs ++ next ∷ []) (all ∙ x.chain.records_are);
        trail = subst (λ (t : Lsn). IsTrail state.uuid (log_of c.image) t next x.chain.oldest (x.chain.later ++ next ∷ [])) (sym tail) trail;
        ends = x.chain.ends ∙ sym tail;
      }

pub all_needed : (P : LogRecord → Type 0) (head next : LogRecord) (records needed : List LogRecord) → GoesOnFrom head records next.head needed → All P records → P next
    → All P (needed ++ next ∷ [])
all_needed P head next records needed (inl (all, tail)) each one = All-push P needed next (subst (All P) (sym all) each) one
all_needed P head next records needed (inr (none, own)) each one = All-push P needed next (subst (All P) (sym none) (All-nil P)) one

pub new_holds : (image : List ℕ) (state after : State) (old : Holds image state) (next : LogRecord) (logged : List Logged) (c : Crash)
    → IsTornWrite state.uuid image old.live_in.head next c → (app : IsAppended image state old next after logged) → IsWholeWrite state.uuid image next c
    → HoldsUnder c.image after next (app.needed ++ next ∷ []) logged
new_holds image state after old next logged c w app done =
    let x = old.live_in in
    let all : List LogRecord = app.needed ++ next ∷ [] in
    let chain = chain_on image state after old next logged c w app in
    let own = sym app.uuid in
    record {
      holds = record {
        superblock = subst (HasSuper c.image) own (super_stays state.uuid image x.head next c w old.superblock);
        heads = heads_of all;
        entries = app.entries;
        live_in = record {
          head = next;
          newest = subst (λ (u : List ℕ). IsHead u (log_of c.image) next) own done.newest;
          records = all;
          chain = subst (λ (u : List ℕ). IsLiveTrail u (log_of c.image) next all) own chain;
          reserve = reserve_left state.uuid (log_of c.image) next all (length-log c.image (w.torn.outside.long ∙ w.long)) done.newest chain app.place.leaves;
          unmounts = all_needed KeepsUnmounts x.head next x.records app.needed app.place.goes_on x.unmounts app.unmounts;
          heads_are = refl;
          entries_are = app.stream;
          last = app.last;
          items = subst (λ (u : List ℕ). EntriesAreGood u 0 app.entries app.last) own app.items;
        };
        logged = logged;
        log_all = app.log_all;
        blocks = λ block has. app.blocks block has ∙ ap (λ (xs : List ℕ). replayed block xs logged) (sym (block_stays state.uuid image x.head next c after block w has));
        works = app.works;
      };
      head_is = refl;
      records_are = refl;
      logged_is = refl;
    }

-- its write leaves the one state or the other, whatever a crash makes of it
pub leaves_a_state : (image : List ℕ) (state after : State) (old : Holds image state) (next : LogRecord) (logged : List Logged) (c : Crash)
    → IsTornWrite state.uuid image old.live_in.head next c → (app : IsAppended image state old next after logged)
    → HoldsUnder c.image state old.live_in.head old.live_in.records old.logged ⊎ HoldsUnder c.image after next (app.needed ++ next ∷ []) logged
leaves_a_state image state after old next logged c w app = elim (leaves_a_head state.uuid image old.live_in.head next c w) [
  | inl done ↦ inr (new_holds image state after old next logged c w app done)
  | inr head ↦ inl (old_stays image state after old next logged c w app head)
]
