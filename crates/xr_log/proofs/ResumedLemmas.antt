-- A log that goes on from a scan is in step with the disk that was scanned.
use Rattle.std.proofs.Common.{◌≡◌, ◌≢◌, ℕ, suc, ◌*◌, ◌<◌, ◌≤◌, ◌∙◌, Bool, true, false, List, [], ◌∷◌, ◌++◌, length, refl, sym, ap, subst, arith}
use Rattle.std.specs.Prelude.{get_or, ◌↔◌, ◌&&◌, ◌==◌}
use Rattle.std.proofs.lemmas.Bool.{false≢true}
use Rattle.std.specs.Global.{Vec}
use Rattle.std.proofs.lemmas.List.{append-nil}
use Rattle.xr_base.specs.declared.geometry.TheConstants.{SECTOR_BYTES, SECTORS}
use Rattle.xr_disk.specs.Crash.{Crash}
use Rattle.xr_disk.specs.Disk.{DiskView, IsAtRest}
use Rattle.xr_items.specs.declared.item.Item.{Item}
use Rattle.xr_items.specs.declared.item.Item.TheVariants.{Begin, Buf, Done, Inode}
use Rattle.xr_record.specs.declared.entry.Entry.{Entry}
use Rattle.xr_record.specs.declared.entry.Entry.TheVariants.{Trans, Unmount}
use Rattle.xr_record.specs.declared.head.Head.{Head}
use Rattle.xr_record.specs.declared.head.Lsn.{Lsn}
use Rattle.xr_record.specs.Packing.{Packed}
use Rattle.xr_record.specs.Rules.{AtEntry, IsPartial, IsStream, Phase}
use Rattle.xr_record.specs.Stream.{Between}
use Rattle.xr_items.specs.declared.work.Work.{Work}
use Rattle.xr_commit.specs.Entries.{joined_bodies}
use Rattle.xr_commit.specs.GoodItems.{EntriesAreGood, ItemsAreGood, last_after, last_of}
use Rattle.xr_commit.specs.LoggedItems.{Logged}
use Rattle.xr_commit.specs.LogRecords.{log_of}
use Rattle.xr_commit.specs.Pending.{pending}
use Rattle.xr_scan.specs.LoggedEntries.{LogAll, logged_items}
use Rattle.xr_scan.specs.NextId.{next_id}
use Rattle.xr_scan.specs.Replayed.{is_logged}
use Rattle.xr_commit.specs.LogEnds.{IsCleanRecord}
use Rattle.xr_scan.specs.Scanned.{IsScanned, copy_number, copy_of, scanned_state}
use Rattle.xr_scan.specs.ScannedLaws.{scanned_holds}
use Rattle.xr_scan.specs.State.{State, works_of}
use Rattle.xr_scan.specs.declared.scanned.Scanned.{Scanned}
use Rattle.xr_scan.specs.CleanStreamLaws.{clean_holds_its_blocks, ends_between}
use Rattle.xr_scan.specs.LoggedItemLaws.{logged_are_good}
use Rattle.xr_log.specs.Gathered.{HasGathered, Said, needed, nothing_packed}
use Rattle.xr_log.specs.declared.held.Held.{Held}
use Rattle.xr_log.specs.Held.{HasStates, IsInStep, current, is_untouched, placings_of}
use Rattle.xr_log.specs.KeepsNow.{KeepsNow}
use Rattle.xr_log.specs.Resumes.{IsResumed, Resumes, slotted_from}
use Rattle.xr_log.specs.States.{works_in}
use Rattle.xr_log.proofs.ResumeLemmas.{table_pending, table_placings}
use Rattle.xr_log.proofs.StateLemmas.{in_step_has, only_in}
use Rattle.xr_log.proofs.WholeStreamLemmas.{none_after}

-- Entries that log good items are good, and the last id is the last one of these
entries_good : (uuid : List ℕ) (last : ℕ) (es : List Entry) (ls : List Logged) → LogAll es ls → ItemsAreGood uuid last ls → EntriesAreGood uuid last es (last_of last ls)
entries_good uuid last [] ls all good = ap (last_of last) all
entries_good uuid last (Unmount ∷ es) ls all good = entries_good uuid last es ls all good
entries_good uuid last (Trans tid regions ∷ es) ls (first, later, are, logs, more) good =
    let both = good_parts uuid last first later (subst (ItemsAreGood uuid last) are good) in (
      last_of last first,
      record { logged = first; good = both.0; regions_are = logs.regions_are; last_is = refl },
      subst (EntriesAreGood uuid (last_of last first) es) (sym (ap (last_of last) are ∙ last_append last first later)) (entries_good uuid (last_of last first) es later more both.1),
    ) where
      good_parts : (uuid : List ℕ) (last : ℕ) (xs ys : List Logged) → ItemsAreGood uuid last (xs ++ ys) → ItemsAreGood uuid last xs × ItemsAreGood uuid (last_of last xs) ys
      good_parts uuid last [] ys good = (tt, good)
      good_parts uuid last (x ∷ xs) ys good = let rest = good_parts uuid (last_after last x.item) xs ys good.1 in ((good.0, rest.0), rest.1)

      last_append : (last : ℕ) (xs ys : List Logged) → last_of last (xs ++ ys) ≡ last_of (last_of last xs) ys
      last_append last [] ys = refl
      last_append last (x ∷ xs) ys = last_append (last_after last x.item) xs ys

-- the last id is below the next one
next_of : (last next : ℕ) (item : Item) (items : List Item) → last < next → next_id (item ∷ items) ≤ next → (last_after last item < next) × (next_id items ≤ next)
next_of last next (Begin id work) items less all = (omega (arith, all), omega (arith, all))
next_of last next (Done id of) items less all = (less, omega (arith, all))
next_of last next (Buf sector) items less all = (less, all)
next_of last next (Inode ino) items less all = (less, all)

pub last_below : (last next : ℕ) (ls : List Logged) → last < next → next_id (logged_items ls) ≤ next → last_of last ls < next
last_below last next [] less all = less
last_below last next (l ∷ ls) less all = let h = next_of last next l.item (logged_items ls) less all in last_below (last_after last l.item) next ls h.0 h.1

-- what the needed records of it say
record IsFound (image : List ℕ) (scanned : Scanned) (is : IsScanned image scanned) (anew : Bool) : Type 0 where
  pub said : Said
  pub logged : is.logged ≡ said.logged
  pub gathered : HasGathered image (scanned_state scanned) (scanned_holds image scanned is) (needed anew is.live_in.records) nothing_packed (scanned_state scanned) said
  pub ends : (scanned.ends_open ≡ true) ↔ (said.o ≢ Between)
  pub rises : said.last < scanned.next
  pub clean : anew ≡ true → IsCleanRecord is.live_in.head

-- the live stream goes on
goes_on : (image : List ℕ) (scanned : Scanned) (is : IsScanned image scanned) → 1 ≤ scanned.next → IsFound image scanned is false
goes_on image scanned is some =
    let x = is.live_in in
    let e = x.entries_are in
    let good = logged_are_good scanned.uuid (log_of image) is.heads is.entries is.logged x is.log_all in
    let next = is.next in
    record {
      said = record { pieces = e.pieces; o = e.o; last = last_of 0 is.logged; logged = is.logged };
      logged = refl;
      gathered = record {
        ops = [];
        each = tt;
        body = refl;
        number = refl;
        stream = subst (λ (xs : List ℕ). IsStream xs e.pieces e.o []) (sym (append-nil (joined_bodies x.records)))
            (subst (IsStream (joined_bodies x.records) e.pieces e.o) (none_after x.records is.entries e) e.stream);
        items = subst (λ (es : List Entry). EntriesAreGood scanned.uuid 0 es (last_of 0 is.logged)) e.entries_are (entries_good scanned.uuid 0 is.entries is.logged is.log_all good);
        log_all = subst (λ (es : List Entry). LogAll es is.logged) e.entries_are is.log_all;
        uuid = refl;
        blocks = is.blocks;
        works = ap works_of is.pending_are;
      };
      ends = is.ends_open;
      rises = last_below 0 scanned.next is.logged (omega (arith, some)) (omega (arith, next));
      clean = λ never. absurd (false≢true never);
    }

-- nothing is left over
none_partial : (phase : Phase) → IsPartial phase []
none_partial phase = record { less = λ has. absurd (let h = has.header in omega (arith, h)); right = λ whole. absurd (omega (arith, whole)) }

-- so its next record is its own tail
begins_anew : (image : List ℕ) (scanned : Scanned) (is : IsScanned image scanned) → 1 ≤ scanned.next → IsCleanRecord is.live_in.head → IsFound image scanned is true
begins_anew image scanned is some clean =
    let own = clean_holds_its_blocks image (scanned_state scanned) (scanned_holds image scanned is) clean in
    record {
      said = record { pieces = []; o = Between; last = 0; logged = [] };
      logged = own.logged;
      gathered = record {
        ops = [];
        each = tt;
        body = refl;
        number = refl;
        stream = record { whole = refl; each = tt; good = tt; partial = none_partial AtEntry };
        items = refl;
        log_all = refl;
        uuid = refl;
        blocks = own.blocks;
        works = own.works;
      };
      ends = (
        λ ends. absurd (is.ends_open.0 ends (ends_between scanned.uuid (log_of image) is.heads is.entries is.live_in clean)),
        λ never. absurd (never refl),
      );
      rises = omega (arith, some);
      clean = λ anew. clean;
    }

found : (image : List ℕ) (scanned : Scanned) (is : IsScanned image scanned) → 1 ≤ scanned.next → (anew : Bool) → anew ≡ scanned.clean → IsFound image scanned is anew
found image scanned is some true same = begins_anew image scanned is some (is.clean.0 (sym same))
found image scanned is some false same = goes_on image scanned is some

-- as the log holds it
pub resumed_current : (scanned : Scanned) (log : Held) → IsResumed scanned log → current log ≡ scanned_state scanned
resumed_current scanned log r =
    let works : works_in (placings_of log) ≡ works_of scanned.pending.items =
    ap works_in (table_placings log.table.items scanned.pending.items r.table) ∙ works_slotted 0 (works_of scanned.pending.items) in
    λ i. record { uuid = r.uuid i; blocks = copy_of (r.blocks i).items; works = works i } where
      works_slotted : (n : ℕ) (works : List Work) → works_in (slotted_from n works) ≡ works
      works_slotted n [] = refl
      works_slotted n (work ∷ works) = ap (λ (ws : List Work). work ∷ ws) (works_slotted (suc n) works)

record KeepsClean (disk : DiskView) (log : Held) (said : Said) (state : State) : Type 0 where
  pub keeps : KeepsNow disk log.growing state said log.next (state ∷ [])
  pub clean : log.growing.anew ≡ true → IsCleanRecord keeps.holds.live_in.head

keeps_found : (disk : DiskView) (image : List ℕ) (scanned : Scanned) (log : Held) → IsResumed scanned log → IsAtRest image disk → length image ≡ SECTOR_BYTES * SECTORS
    → (is : IsScanned image scanned) → (f : IsFound image scanned is log.growing.anew) → KeepsClean disk log f.said (scanned_state scanned)
keeps_found disk image scanned log r rest long is f =
    let next = r.next in
    let all = is.next in
    record {
      keeps = record {
        image = image;
        rest = rest;
        long = long;
        durable = scanned_state scanned;
        among = (0, omega arith, refl);
        holds = scanned_holds image scanned is;
        last_is = sym (r.last ∙ is.last);
        gathered = subst (λ (p : Packed). HasGathered image (scanned_state scanned) (scanned_holds image scanned is) (needed log.growing.anew is.live_in.records) p (scanned_state scanned) f.said)
            (sym r.packer) f.gathered;
        durable_ids = omega (arith, next, all);
        ids = subst (λ (ls : List Logged). next_id (logged_items ls) ≤ log.next) f.logged (omega (arith, next, all));
      };
      clean = f.clean;
    }

anew_untouched : (log : Held) → is_untouched log ≡ true → log.growing.anew ≡ true
anew_untouched log untouched = by_anew log.growing.anew untouched where
  by_anew : (anew : Bool) → (anew && length log.growing.packer.body == 0) ≡ true → anew ≡ true
  by_anew true is = refl
  by_anew false is = is

pub resumed_in_step : (disk : DiskView) (image : List ℕ) (scanned : Scanned) (log : Held) → IsResumed scanned log → IsAtRest image disk
    → length image ≡ SECTOR_BYTES * SECTORS → IsScanned image scanned → 1 ≤ scanned.next → IsInStep disk log (current log ∷ [])
resumed_in_step disk image scanned log r rest long is some =
    let f = found image scanned is some log.growing.anew r.anew in
    let state : current log ≡ scanned_state scanned = resumed_current scanned log r in
    let k = subst (KeepsClean disk log f.said) (sym state) (keeps_found disk image scanned log r rest long is f) in
    record {
      said = f.said;
      keeps = k.keeps;
      ends = (λ ends. f.ends.0 (sym r.ends_open ∙ ends), λ within. r.ends_open ∙ f.ends.1 within);
      rises = subst (λ (n : ℕ). f.said.last < n) (sym r.next) f.rises;
      pending_are = table_pending log.table.items scanned.pending.items r.table ∙ is.pending_are ∙ ap (λ (ls : List Logged). pending (logged_items ls)) f.logged;
      dirty = λ block has. ap (λ (marks : Vec Bool). get_or marks.items (copy_number block) false) r.dirty ∙ is.dirty block has ∙ ap (is_logged block) f.logged;
      clean = λ untouched. k.clean (anew_untouched log untouched);
      written = λ none. sym (only_in (current log) k.keeps.durable k.keeps.among);
    }

untouched_is : (anew clean : Bool) (packed : Packed) → anew ≡ clean → packed ≡ nothing_packed → (anew && length packed.body == 0) ≡ clean
untouched_is true clean packed same empty = ap (λ (p : Packed). length p.body == 0) empty ∙ same
untouched_is false clean packed same empty = same

pub resumes : (scanned : Scanned) (log : Held) → IsResumed scanned log → Resumes scanned log
resumes scanned log r = record {
  state = resumed_current scanned log r;
  placings = table_placings log.table.items scanned.pending.items r.table;
  cycle = ap (λ (h : Head). h.lsn.cycle) r.last ∙ sym (ap (λ (l : Lsn). l.cycle) scanned.newest);
  next = r.next;
  untouched = untouched_is log.growing.anew scanned.clean log.growing.packer r.anew r.packer;
  up = r.up;
}

-- and its one state is the current one
pub resumed_has : (disk : DiskView) (image : List ℕ) (scanned : Scanned) (log : Held) → IsResumed scanned log → IsAtRest image disk
    → ((c : Crash) × (c.image ≡ image) × (length c.image ≡ SECTOR_BYTES * SECTORS)) → IsScanned image scanned → HasStates disk log (current log ∷ [])
resumed_has disk image scanned log r rest (c, same, long) is =
    in_step_has disk log (current log ∷ []) [] refl (resumed_in_step disk image scanned log r rest (sym (ap length same) ∙ long) is scanned.numbered.«from»)
