-- The state in memory after a transaction was entered, and that it is in step with what was pushed.
use Rattle.std.proofs.Common.{◌≡◌, ◌≢◌, ℕ, suc, ◌+◌, ◌<◌, ◌∙◌, Bool, true, false, cond, ◌&&◌, ◌||◌, ◌==◌, List, [], ◌∷◌, ◌++◌, length, map, take, get_or, refl, sym, ap, subst, arith}
use Rattle.std.specs.Prelude.{Contains, not}
use Rattle.std.specs.Global.{Vec}
use Rattle.std.specs.List.{list_any}
use Rattle.std.proofs.lemmas.Bool.{eqb-true, false≢true}
use Rattle.std.proofs.lemmas.List.{map-append}
use Rattle.std.proofs.lemmas.List.Elements.{recursion_from_All}
use Rattle.xr_disk.specs.Disk.{DiskView}
use Rattle.xr_items.specs.declared.trans.Logged.{Logged as Changed}
use Rattle.xr_items.specs.declared.trans.Placed.{Placed}
use Rattle.xr_items.specs.declared.work.Work.{Work}
use Rattle.xr_items.specs.Transactions.{IsTrans, TransView}
use Rattle.xr_record.specs.Rules.{AtEntry, phase_of}
use Rattle.xr_record.specs.Stream.{Begun, Between, Cut, Inside, Open, Written}
use Rattle.xr_commit.specs.LoggedItems.{Logged}
use Rattle.xr_commit.specs.Pending.{pending}
use Rattle.xr_scan.specs.LoggedEntries.{logged_items}
use Rattle.xr_scan.specs.Replayed.{is_logged}
use Rattle.xr_scan.specs.Scanned.{copy_of}
use Rattle.xr_scan.specs.State.{HasBlock, State, works_of}
use Rattle.xr_log.specs.declared.held.Growing.{Growing}
use Rattle.xr_log.specs.declared.held.Held.{Held}
use Rattle.xr_log.specs.declared.held.Slotted.{Slotted}
use Rattle.xr_log.specs.Calls.{Commits, MayCommit}
use Rattle.xr_log.specs.CommitCalls.{logged_by}
use Rattle.xr_log.specs.CommitSteps.{KeepsOpen}
use Rattle.xr_log.specs.EndedWorks.{kept_entries}
use Rattle.xr_log.specs.Entering.{Enters, Lays, table_after}
use Rattle.xr_log.specs.Gathered.{Said}
use Rattle.xr_log.specs.Held.{IsInStep, current, placings_of}
use Rattle.xr_log.specs.KeepsNow.{KeepsNow}
use Rattle.xr_log.specs.PlacedWorks.{entries_of}
use Rattle.xr_log.specs.Pushes.{said_after, state_with}
use Rattle.xr_log.specs.Slots.{pending_in, slots_in}
use Rattle.xr_log.specs.States.{Placing, placed_in, without_slots, works_in}
use Rattle.xr_log.specs.Writing.{OnlyPacks}
use Rattle.xr_log.proofs.CommitPlanLemmas.{has_slots, plan_names, slots_placed, whole_changes}
use Rattle.xr_log.proofs.PlanPendingLemmas.{items_append, plan_pending}
use Rattle.xr_log.proofs.PlanReplayLemmas.{any_append, plan_logs, plan_replays}
use Rattle.xr_log.proofs.ResumedLemmas.{last_below}
use Rattle.xr_log.proofs.TableLemmas.{all_apart}

-- A transaction was pushed, which only packs, and then entered.
pub record IsEntered (trans : TransView) (old mid new : Held) (slots : Placed) : Type 0 where
  pub lays : Lays trans.blocks old.blocks.items old.dirty.items new.blocks.items new.dirty.items
  pub count : slots.count ≡ length trans.works
  pub long : length (take slots.count slots.slots) ≡ length trans.works
  pub table : new.table.items ≡ table_after trans old.table.items old.next slots
  pub next : new.next ≡ old.next + length trans.works
  pub uuid : new.uuid ≡ old.uuid
  pub ends_open : new.ends_open ≡ old.ends_open
  pub growing : new.growing ≡ mid.growing
  pub down : new.down ≡ mid.down

pub is_entered : (trans : TransView) (old mid new : Held) (slots : Placed) → OnlyPacks old mid → Enters trans mid new slots → IsEntered trans old mid new slots
is_entered trans old mid new slots same e = record {
  lays = subst (λ (copies : Vec ℕ). Lays trans.blocks copies.items old.dirty.items new.blocks.items new.dirty.items) same.blocks
      (subst (λ (marks : Vec Bool). Lays trans.blocks mid.blocks.items marks.items new.blocks.items new.dirty.items) same.dirty e.lays);
  count = e.count;
  long = e.long;
  table = e.table ∙ ap (λ (table : Vec Slotted). table_after trans table.items mid.next slots) same.table
      ∙ ap (λ (n : ℕ). table_after trans old.table.items n slots) same.next;
  next = e.next ∙ ap (λ (n : ℕ). n + length trans.works) same.next;
  uuid = e.uuid ∙ same.uuid;
  ends_open = e.ends_open ∙ same.ends_open;
  growing = e.growing;
  down = e.down;
}

-- Placings

abbrev placing_of : Slotted → Placing
placing_of s = record { slot = s.slot; work = s.work }

placings_kept : (done : List ℕ) (table : List Slotted) → map placing_of (kept_entries done table) ≡ without_slots done (map placing_of table)
placings_kept done [] = refl
placings_kept done (s ∷ table) = by_test (not (list_any (λ (slot : ℕ). slot == s.slot) done)) (placings_kept done table) where
  by_test : (b : Bool) → map placing_of (kept_entries done table) ≡ without_slots done (map placing_of table)
      → map placing_of (cond b (s ∷ kept_entries done table) (kept_entries done table))
      ≡ cond b (placing_of s ∷ without_slots done (map placing_of table)) (without_slots done (map placing_of table))
  by_test true rest = ap (λ (ps : List Placing). placing_of s ∷ ps) rest
  by_test false rest = rest

placings_new : (next : ℕ) (slots : List ℕ) (works : List Work) → map placing_of (entries_of next slots works) ≡ placed_in slots works
placings_new next [] works = refl
placings_new next (slot ∷ slots) [] = refl
placings_new next (slot ∷ slots) (work ∷ works) = ap (λ (ps : List Placing). record { slot = slot; work = work } ∷ ps) (placings_new (suc next) slots works)

works_placed : (slots : List ℕ) (works : List Work) → length slots ≡ length works → works_in (placed_in slots works) ≡ works
works_placed [] [] long = refl
works_placed [] (work ∷ works) long = absurd (omega (arith, long))
works_placed (slot ∷ slots) [] long = absurd (omega (arith, long))
works_placed (slot ∷ slots) (work ∷ works) long = ap (λ (ws : List Work). work ∷ ws) (works_placed slots works (omega (arith, long)))

works_pending : (table : List Slotted) → works_in (map placing_of table) ≡ works_of (pending_in table)
works_pending [] = refl
works_pending (s ∷ table) = ap (λ (ws : List Work). s.work ∷ ws) (works_pending table)

placings_after : (trans : TransView) (old mid new : Held) (slots : Placed) → IsEntered trans old mid new slots
    → placings_of new ≡ without_slots trans.done (placings_of old) ++ placed_in (take slots.count slots.slots) trans.works
placings_after trans old mid new slots e =
    let given : List ℕ = take slots.count slots.slots in
    ap (map placing_of) e.table ∙ map-append placing_of (kept_entries trans.done old.table.items) (entries_of old.next given trans.works)
    ∙ ap (λ (ps : List Placing). ps ++ map placing_of (entries_of old.next given trans.works)) (placings_kept trans.done old.table.items)
    ∙ ap (λ (ps : List Placing). without_slots trans.done (placings_of old) ++ ps) (placings_new old.next given trans.works)

-- it is committed
pub commits_entered : (trans : TransView) (old mid new : Held) (slots : Placed) → IsEntered trans old mid new slots → Commits trans old new slots
commits_entered trans old mid new slots e =
    let given : List ℕ = take slots.count slots.slots in
    let are = placings_after trans old mid new slots e in
    record {
      count = e.count;
      placings = are;
      apart = subst (λ (xs : List ℕ). (i j d : ℕ) → i < j → j < length xs → get_or xs i d ≢ get_or xs j d) (sym (slots_placed new.table.items)) new.slots;
      state = record {
        uuid = e.uuid;
        blocks = e.lays.blocks;
        works = ap works_in are ∙ map-append (λ (p : Placing). p.work) (without_slots trans.done (placings_of old)) (placed_in given trans.works)
            ∙ ap (λ (ws : List Work). works_in (without_slots trans.done (placings_of old)) ++ ws) (works_placed given trans.works e.long);
      };
    }

-- In step

-- the same state under another name, among more states
keeps_same : (disk : DiskView) (growing : Growing) (now now' : State) (said : Said) (next : ℕ) (states states' : List State) → (k : KeepsNow disk growing now said next states)
    → Contains states' k.durable → now'.uuid ≡ now.uuid → ((block : ℕ) → HasBlock now' block → now'.blocks block ≡ now.blocks block) → now'.works ≡ now.works
    → KeepsNow disk growing now' said next states'
keeps_same disk growing now now' said next states states' k among uuid blocks works =
    let g = k.gathered in
    record {
      image = k.image;
      rest = k.rest;
      long = k.long;
      durable = k.durable;
      among = among;
      holds = k.holds;
      last_is = k.last_is;
      gathered = record {
        ops = g.ops;
        each = g.each;
        body = g.body;
        number = g.number;
        stream = g.stream;
        items = g.items;
        log_all = g.log_all;
        uuid = uuid ∙ g.uuid;
        blocks = λ block has. blocks block has ∙ g.blocks block has;
        works = works ∙ g.works;
      };
      durable_ids = k.durable_ids;
      ids = k.ids;
    }

-- a stream that doesn't end within a transaction
between_is : (o : Open) → (o ≢ Between → ⊥) → phase_of o ≡ AtEntry
between_is Between never = refl
between_is (Begun tid) never = absurd (never (λ same. absurd cc))
between_is (Inside t) never = absurd (never (λ same. absurd cc))
between_is (Cut t part parts) never = absurd (never (λ same. absurd cc))

pub begins_open : (disk : DiskView) (log : Held) (states : List State) → (s : IsInStep disk log states) → log.ends_open ≡ false → Contains states (current log)
    → KeepsOpen disk log (current log) s.said log.next states AtEntry
begins_open disk log states s whole among = record {
  o = s.said.o;
  phase_is = between_is s.said.o (λ inside. false≢true (sym whole ∙ s.ends.1 inside));
  keeps = s.keeps;
  among = among;
  own = refl;
}

and_right : (a b : Bool) → (a && b) ≡ true → b ≡ true
and_right true b e = e
and_right false b e = absurd (false≢true e)

-- what is pending after it
pending_after : (trans : TransView) (old mid new : Held) (slots : Placed) (logged : List Logged) → IsEntered trans old mid new slots
    → MayCommit old.uuid (placings_of old) trans → pending_in old.table.items ≡ pending (logged_items logged)
    → pending_in new.table.items ≡ pending (logged_items (logged ++ logged_by old trans))
pending_after trans old mid new slots logged e may are =
    ap pending_in e.table
    ∙ plan_pending old.table.items old.next trans (logged_items logged) (take slots.count slots.slots) are (all_apart old.table.items old.numbered.rise old.slots)
    (recursion_from_All (Contains (slots_in old.table.items)) trans.done (has_slots old trans may).pending) e.long
    ∙ ap pending (sym (items_append logged (logged_by old trans)))

-- the record that grows says it, and memory is as it says
pub step_entered : (disk disk' : DiskView) (trans : TransView) (old mid new : Held) (slots : Placed) (states states' : List State) (t : Written) → (s : IsInStep disk old states)
    → IsEntered trans old mid new slots → IsTrans trans → MayCommit old.uuid (placings_of old) trans → old.ends_open ≡ false
    → (k : KeepsNow disk' mid.growing (state_with (current old) s.said.logged (logged_by old trans)) (said_after s.said t (logged_by old trans)) new.next states)
    → Contains states' k.durable → 0 < length mid.growing.packer.body → IsInStep disk' new states'
step_entered disk disk' trans old mid new slots states states' t s e valid may whole k among some =
    let logged : List Logged = logged_by old trans in
    let said : Said = said_after s.said t logged in
    let changes = whole_changes old.uuid trans valid may.own in
    let pending_are = pending_after trans old mid new slots s.said.logged e may s.pending_are in
    let packed : 0 < length new.growing.packer.body = subst (λ (g : Growing). 0 < length g.packer.body) (sym e.growing) some in
    let none = (λ (is : length new.growing.packer.body ≡ 0). (let r : ⊥ = omega (arith, is, packed) in r)) in
    let kept : KeepsNow disk' mid.growing (current new) said new.next states' =
    keeps_same disk' mid.growing (state_with (current old) s.said.logged logged) (current new) said new.next states states' k among e.uuid
    (λ block has. e.lays.blocks block has ∙ sym (plan_replays old.uuid block (copy_of old.blocks.items block) old.table.items old.next trans changes valid.distinct))
    (works_pending new.table.items ∙ ap works_of pending_are) in
    record {
      said = said;
      keeps = subst (λ (g : Growing). KeepsNow disk' g (current new) said new.next states') (sym e.growing) kept;
      ends = (λ inside. absurd (false≢true (sym (e.ends_open ∙ whole) ∙ inside)), λ within. absurd (within refl));
      rises = (let names = plan_names old trans in let rises = s.rises in let next = e.next in
          last_below s.said.last new.next logged (omega (arith, rises, next)) (omega (arith, names, next)));
      pending_are = pending_are;
      dirty = λ block has. e.lays.dirty block has
          ∙ ap (λ (b : Bool). b || list_any (λ (l : Changed). l.block == block) trans.blocks) (s.dirty block has)
          ∙ ap (λ (b : Bool). is_logged block s.said.logged || b) (sym (plan_logs old.uuid block old.table.items old.next trans changes))
          ∙ sym (any_append block s.said.logged logged);
      clean = λ untouched. absurd (none (eqb-true (length new.growing.packer.body) 0 (and_right new.growing.anew (length new.growing.packer.body == 0) untouched)));
      written = λ is. absurd (none is);
    }
