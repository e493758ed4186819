-- That a record is written and synced.
use Rattle.std.proofs.Common.{◌≡◌, ◌⊎◌, ℕ, zero, suc, ◌+◌, ◌*◌, ◌≤◌, ◌∙◌, List, [], ◌∷◌, ◌++◌, length, refl, sym, ap, subst, arith, inl, inr, Result, Ok, Err}
use Rattle.std.specs.Prelude.{Contains, OnErr, OnOk, Some}
use Rattle.xr_base.specs.Image.{overlaid, part}
use Rattle.xr_base.specs.declared.geometry.TheConstants.{SECTOR_BYTES}
use Rattle.xr_disk.specs.Crash.{Crash, SameOutside, Torn, Write, at_rest}
use Rattle.xr_disk.specs.CrashLaws.{overlaid_outside}
use Rattle.xr_disk.specs.Disk.{CoversNoMore, DiskView, IsAtRest, IsCall, MayTear, Overlays}
use Rattle.xr_disk.specs.Runs.{Runs, begin, leaves_more, then_sync, then_write}
use Rattle.xr_commit.specs.LogRecords.{LogRecord, log_of}
use Rattle.xr_commit.specs.LoggedItems.{Logged}
use Rattle.xr_scan.specs.FalseRecords.{HasNoFalseRecord, log_place, own_sectors}
use Rattle.xr_scan.specs.LoggedEntries.{logged_items}
use Rattle.xr_scan.specs.NextId.{next_id}
use Rattle.xr_scan.specs.State.{State}
use Rattle.xr_log.specs.Appending.{HoldsUnder}
use Rattle.xr_log.specs.Gathered.{Said}
use Rattle.xr_log.specs.States.{LeavesOneOf, LeavesWithin}
use Rattle.xr_log.specs.TornWrites.{IsTornWrite, bytes_of}
use Rattle.xr_log.specs.Writing.{IsWrittenAt, MayWrite, RunsOver}
use Rattle.xr_log.proofs.AppendingLemmas.{leaves_a_state, new_holds, placed_apart}
use Rattle.xr_log.proofs.OutsideLemmas.{over_same}
use Rattle.xr_log.proofs.PositionLemmas.{head_apart}
use Rattle.xr_log.proofs.StandingLemmas.{length-bytes_of}
use Rattle.xr_log.proofs.TornLemmas.{done_head}

-- the one state or the other, each with its head and its items
abbrev HoldsEither : {disk : DiskView} {r : LogRecord} {now : State} {said : Said} {next : ℕ} {states : List State} → MayWrite disk r now said next states → List ℕ → Type 0
HoldsEither {r = r} {now = now} {said = said} m image =
    HoldsUnder image m.durable m.holds.live_in.head m.holds.live_in.records m.holds.logged ⊎ HoldsUnder image now r (m.adds.needed ++ r ∷ []) said.logged

abbrev LeavesEither : {disk : DiskView} {r : LogRecord} {now : State} {said : Said} {next : ℕ} {states : List State} → MayWrite disk r now said next states → Crash → Type 0
LeavesEither m c = HasNoFalseRecord c → HoldsEither m c.image

torn_is : (disk : DiskView) (r : LogRecord) (now : State) (said : Said) (next : ℕ) (states : List State) (m : MayWrite disk r now said next states) (c : Crash)
    → Torn (log_place r.head.lsn.sector) (bytes_of r) (at_rest m.image) c → HasNoFalseRecord c → IsTornWrite m.durable.uuid m.image m.holds.live_in.head r c
torn_is disk r now said next states m c torn sound = record {
  long = m.long;
  newest = m.holds.live_in.newest;
  next_is = m.next_is;
  apart = head_apart m.durable.uuid (log_of m.image) m.holds.live_in.head m.holds.live_in.records r.head m.holds.live_in.newest m.holds.live_in.chain
      (placed_apart m.image m.durable now m.holds r said.logged m.long m.next_is m.adds);
  torn = torn;
  sound = sound;
}

only_one : (write w : Write) → Contains (write ∷ []) w → write ≡ w
only_one write w (zero, below, is) = is
only_one write w (suc k, below, is) = absurd (omega (arith, below))

-- the image with the record wholly written holds the state now
unfoldable pub done_image : {disk : DiskView} {r : LogRecord} {now : State} {said : Said} {next : ℕ} {states : List State} → MayWrite disk r now said next states → List ℕ
done_image {r = r} m = overlaid (log_place r.head.lsn.sector) (bytes_of r) m.image

unfoldable pub done_crash : {disk : DiskView} {r : LogRecord} {now : State} {said : Said} {next : ℕ} {states : List State} → MayWrite disk r now said next states → Crash
done_crash {r = r} m =
    record { image = done_image m; in_flight = record { at = log_place r.head.lsn.sector; bytes = bytes_of r; before = part (log_place r.head.lsn.sector) (length (bytes_of r)) m.image } ∷ [] }

pub done_is_torn : (disk : DiskView) (r : LogRecord) (now : State) (said : Said) (next : ℕ) (states : List State) (m : MayWrite disk r now said next states)
    → IsTornWrite m.durable.uuid m.image m.holds.live_in.head r (done_crash m)
unfolding done_image done_crash
done_is_torn disk r now said next states m =
    let at : ℕ = log_place r.head.lsn.sector in
    let l = length-bytes_of r m.next_is.long m.next_is.good m.next_is.stored in
    let within = m.next_is.within in
    let size = m.long in
    let fits : at + length (bytes_of r) ≤ length m.image = omega (arith, size, within, l) in
    let outside : SameOutside at (length (bytes_of r)) m.image (done_image m) = overlaid_outside at (bytes_of r) m.image fits in
    let write : Write = record { at = at; bytes = bytes_of r; before = part at (length (bytes_of r)) m.image } in
    let again : done_image m ≡ overlaid at (bytes_of r) (done_image m) = sym (over_same at (bytes_of r) m.image (done_image m) outside) in
    torn_is disk r now said next states m (done_crash m) record { outside = outside; in_flight = refl }
    (λ w q has stands into. inl (ap (λ (xs : List ℕ). own_sectors xs q.head)
    (subst (λ (v : Write). done_image m ≡ overlaid v.at v.bytes (done_image m)) (only_one write w has) again)))

pub done_holds : (disk : DiskView) (r : LogRecord) (now : State) (said : Said) (next : ℕ) (states : List State) (m : MayWrite disk r now said next states)
    → HoldsUnder (done_image m) now r (m.adds.needed ++ r ∷ []) said.logged
unfolding done_image done_crash
done_holds disk r now said next states m =
    new_holds m.image m.durable now m.holds r said.logged (done_crash m) (done_is_torn disk r now said next states m) m.adds
    record { image_is = refl; newest = done_head m.durable.uuid m.image m.holds.live_in.head r m.long m.holds.live_in.newest m.next_is }

-- what is left is one of the states, within the bounds
one_of : (disk : DiskView) (r : LogRecord) (now : State) (said : Said) (next : ℕ) (states : List State) (m : MayWrite disk r now said next states) (c : Crash)
    → Contains states now → LeavesEither m c → LeavesOneOf states c
one_of disk r now said next states m c among left sound = elim (left sound) [
  | inl old ↦ (m.durable, m.among, old.holds)
  | inr new ↦ (now, among, new.holds)
]

within : (disk : DiskView) (r : LogRecord) (now : State) (said : Said) (next : ℕ) (states : List State) (m : MayWrite disk r now said next states) (c : Crash)
    → m.holds.live_in.head.head.lsn.cycle ≤ r.head.lsn.cycle → LeavesEither m c → LeavesWithin r.head.lsn.cycle next c
within disk r now said next states m c later left sound = elim (left sound) [
  | inl old ↦ record {
    state = m.durable;
    holds = old.holds;
    cycles = subst (λ (h : LogRecord). h.head.lsn.cycle ≤ r.head.lsn.cycle) (sym old.head_is) later;
    ids = subst (λ (ls : List Logged). next_id (logged_items ls) ≤ next) (sym old.logged_is) m.durable_ids;
  }
  | inr new ↦ record {
    state = now;
    holds = new.holds;
    cycles = subst (λ (h : LogRecord). h.head.lsn.cycle ≤ r.head.lsn.cycle) (sym new.head_is) (omega arith);
    ids = subst (λ (ls : List Logged). next_id (logged_items ls) ≤ next) (sym new.logged_is) m.ids;
  }
]

runs_more : (old new : DiskView) (P Q : Crash → Type 0) → Runs old new P → ((c : Crash) → P c → Q c) → Runs old new Q
runs_more old new P Q runs more = record { so_far = leaves_more runs.so_far more; now = λ c left. more c (runs.now c left) }

pub runs_over : (old new : DiskView) (r : LogRecord) (now : State) (said : Said) (next : ℕ) (states : List State) (m : MayWrite old r now said next states)
    → Contains states now → Runs old new (LeavesEither m) → (seen : (image : List ℕ) × (new.seen ≡ Some image)) → RunsOver old new states r.head.lsn.cycle next
runs_over old new r now said next states m among runs seen = record {
  states_run = runs_more old new (LeavesEither m) (LeavesOneOf states) runs (λ c left. one_of old r now said next states m c among left);
  bounds_run = runs_more old new (LeavesEither m) (LeavesWithin r.head.lsn.cycle next) runs
      (λ c left. within old r now said next states m c (let e = m.next_is.newer in let s = m.next_is.good.sector in omega (arith, e, s)) left);
  image = seen.0;
  told = seen.1;
}

-- the place and the bytes as the code has them
written_torn : (at : ℕ) (bytes : List ℕ) (r : LogRecord) (d c : Crash) → IsWrittenAt at bytes r → Torn (SECTOR_BYTES * at) bytes d c
    → Torn (log_place r.head.lsn.sector) (bytes_of r) d c
written_torn at bytes r d c w torn =
    subst (λ (n : ℕ). Torn n (bytes_of r) d c) w.at_is (subst (λ (xs : List ℕ). Torn (SECTOR_BYTES * at) xs d c) w.bytes_are torn)

written_image : (at : ℕ) (bytes image : List ℕ) (r : LogRecord) → IsWrittenAt at bytes r → overlaid (SECTOR_BYTES * at) bytes image ≡ overlaid (log_place r.head.lsn.sector) (bytes_of r) image
written_image at bytes image r w =
    ap (λ (n : ℕ). overlaid n bytes image) w.at_is ∙ ap (λ (xs : List ℕ). overlaid (log_place r.head.lsn.sector) xs image) w.bytes_are

rests : (disk : DiskView) (r : LogRecord) (now : State) (said : Said) (next : ℕ) (states : List State) (m : MayWrite disk r now said next states) → LeavesEither m (at_rest m.image)
rests disk r now said next states m sound = inl record { holds = m.holds; head_is = refl; records_are = refl; logged_is = refl }

pub write_runs : {T E : Type 0} (old mid : DiskView) (at : ℕ) (bytes : List ℕ) (r : LogRecord) (now : State) (said : Said) (next : ℕ) (states : List State) (result : Result T E)
    → (m : MayWrite old r now said next states) → IsWrittenAt at bytes r → IsCall old mid result → MayTear (SECTOR_BYTES * at) bytes old mid → Runs old mid (LeavesEither m)
write_runs old mid at bytes r now said next states result m w call tear =
    then_write (SECTOR_BYTES * at) bytes (begin m.rest (rests old r now said next states m)) call tear
    (λ d c left torn sound. leaves_a_state m.image m.durable now m.holds r said.logged c
    (torn_is old r now said next states m c
    (subst (λ (x : Crash). Torn (log_place r.head.lsn.sector) (bytes_of r) x c) (m.rest.alone d left) (written_torn at bytes r d c w torn)) sound) m.adds)

pub sync_runs : {T E : Type 0} (old mid new : DiskView) (at : ℕ) (bytes : List ℕ) (r : LogRecord) (now : State) (said : Said) (next : ℕ) (states : List State) (result : Result T E)
    → (m : MayWrite old r now said next states) → IsWrittenAt at bytes r → Runs old mid (LeavesEither m) → IsCall mid new result
    → OnOk result ((s : List ℕ) → mid.seen ≡ Some s → IsAtRest s new) → OnErr result (CoversNoMore mid new) → Overlays (SECTOR_BYTES * at) bytes old mid
    → Runs old new (LeavesEither m)
unfolding done_image
sync_runs old mid new at bytes r now said next states result m w runs call durable failed written =
    then_sync (done_image m) runs call durable failed
    (subst (λ (xs : List ℕ). mid.seen ≡ Some xs) (written_image at bytes m.image r w) (written m.image m.rest.seen))
    (λ sound. inr (done_holds old r now said next states m))

-- what it reads is told after each of them
pub write_told : (old mid : DiskView) (at : ℕ) (bytes : List ℕ) (image : List ℕ) → MayTear (SECTOR_BYTES * at) bytes old mid → old.seen ≡ Some image
    → (seen : List ℕ) × (mid.seen ≡ Some seen)
write_told old mid at bytes image tear told = let t = tear.seen image told in (t.0, t.1)

pub sync_told : {T E : Type 0} (mid new : DiskView) (result : Result T E) (image : List ℕ) → OnOk result ((s : List ℕ) → mid.seen ≡ Some s → IsAtRest s new)
    → OnErr result (CoversNoMore mid new) → mid.seen ≡ Some image → (seen : List ℕ) × (new.seen ≡ Some seen)
sync_told mid new (Ok x) image durable failed told = (image, (durable image told).seen)
sync_told mid new (Err e) image durable failed told = failed.seen image told

pub rests_over : {T E : Type 0} (old mid new : DiskView) (at : ℕ) (bytes : List ℕ) (result : Result T E)
    → OnOk result ((s : List ℕ) → mid.seen ≡ Some s → IsAtRest s new) → Overlays (SECTOR_BYTES * at) bytes old mid
    → OnOk result ((image : List ℕ) → IsAtRest image old → IsAtRest (overlaid (SECTOR_BYTES * at) bytes image) new)
rests_over old mid new at bytes (Ok x) durable written = λ image rest. durable (overlaid (SECTOR_BYTES * at) bytes image) (written image rest.seen)
rests_over old mid new at bytes (Err e) durable written = tt
