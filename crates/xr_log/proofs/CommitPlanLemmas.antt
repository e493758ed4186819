-- What a transaction that may be committed makes right: its items, its slots, and the space for its records.
use Rattle.std.proofs.Common.{◌≡◌, ℕ, ◌+◌, ◌*◌, ◌<◌, ◌≤◌, ◌∙◌, List, [], ◌∷◌, length, map, refl, sym, ap, subst, arith, inl, inr}
use Rattle.std.specs.Prelude.{◌↔◌, Bool, Contains, IsTrue, false}
use Rattle.std.specs.List.{All, AllByRecursion}
use Rattle.std.proofs.lemmas.Bool.{false≢true}
use Rattle.std.proofs.lemmas.Bool.Decides.{leb_tells}
use Rattle.std.proofs.lemmas.List.{length-map}
use Rattle.std.proofs.lemmas.List.Elements.{All-from_recursion, recursion_from_All}
use Rattle.xr_base.specs.declared.geometry.TheConstants.{CYCLES, LOG_SECTORS}
use Rattle.xr_base.specs.declared.layout.TheConstants.{MAX_BODY_BYTES}
use Rattle.xr_items.specs.declared.layout.TheConstants.{IDS}
use Rattle.xr_items.specs.declared.trans.Logged.{Logged as Changed}
use Rattle.xr_items.specs.declared.work.Work.{Work}
use Rattle.xr_items.specs.Transactions.{IsTrans, TransView}
use Rattle.xr_items.specs.Valid.{IsItem, IsWork}
use Rattle.xr_record.specs.Record.{sectors_of}
use Rattle.xr_commit.specs.GoodItems.{ItemsAreGood}
use Rattle.xr_commit.specs.LogRecords.{record_end}
use Rattle.xr_scan.specs.LoggedEntries.{IsWholeItem, logged_items}
use Rattle.xr_scan.specs.LoggedItemLaws.{all_whole}
use Rattle.xr_scan.specs.NextId.{next_id}
use Rattle.xr_log.specs.declared.held.Held.{Held}
use Rattle.xr_log.specs.declared.held.Slotted.{Slotted}
use Rattle.xr_log.specs.declared.layout.TheConstants.{COMMIT_SECTORS}
use Rattle.xr_log.specs.declared.transaction.Planned.{Planned}
use Rattle.xr_log.specs.Calls.{IsOwnCore, MayCommit, NeedsLastCycle, WearsOut}
use Rattle.xr_log.specs.CommitCalls.{IsPlan, commit_fill, logged_by}
use Rattle.xr_log.specs.Entering.{HasSlots}
use Rattle.xr_log.specs.Filling.{FULL_SECTORS, HasSpace, fill_of, filled_by}
use Rattle.xr_log.specs.Held.{cycle_of, placings_of}
use Rattle.xr_log.specs.Positions.{LeavesSectors}
use Rattle.xr_log.specs.Slots.{slots_in}
use Rattle.xr_log.specs.States.{Placing, slots_of}
use Rattle.xr_log.specs.TransactionItems.{logged_in}
use Rattle.xr_log.specs.Writing.{OnlyPacks}
use Rattle.xr_log.proofs.GoodPlanLemmas.{IsWholeChange, good_plan}
use Rattle.xr_log.proofs.PlanPendingLemmas.{plan_ids}
use Rattle.xr_log.proofs.PlanReplayLemmas.{places_below}
use Rattle.xr_log.proofs.RoomLemmas.{commit_fills_few}
use Rattle.xr_log.proofs.StateLemmas.{same_placings}
use Rattle.xr_log.proofs.TableLemmas.{entries_below, entries_valid}

-- Its items

pub whole_changes : (uuid : List ℕ) (trans : TransView) → IsTrans trans → All (IsOwnCore uuid) trans.blocks → AllByRecursion (IsWholeChange uuid) trans.blocks
whole_changes uuid trans valid own =
    recursion_from_All (IsWholeChange uuid) trans.blocks (λ k d within. (valid.logged_blocks k d within, valid.whole_images k d within, own k d within))

pub plan_good : (log : Held) (trans : TransView) (last : ℕ) → IsTrans trans → MayCommit log.uuid (placings_of log) trans → log.next + length trans.works ≤ IDS → last < log.next
    → ItemsAreGood log.uuid last (logged_by log trans)
plan_good log trans last valid may ids rises =
    good_plan log.uuid last log.next log.table.items trans rises log.numbered.from ids (entries_valid log.next log.table.items log.numbered)
    (whole_changes log.uuid trans valid may.own) (places_below trans.blocks (length trans.blocks)) (recursion_from_All IsWork trans.works valid.valid_works)

pub plan_whole : (log : Held) (trans : TransView) → IsTrans trans → MayCommit log.uuid (placings_of log) trans → log.next + length trans.works ≤ IDS
    → AllByRecursion IsWholeItem (logged_by log trans)
plan_whole log trans valid may ids =
    all_whole log.uuid 0 (logged_by log trans) (plan_good log trans 0 valid may ids (let from = log.numbered.from in omega (arith, from)))

items_valid : (blocks : List Changed) (plan : List Planned) → AllByRecursion IsWholeItem (logged_in blocks plan) → AllByRecursion (λ (p : Planned). IsItem p.item) plan
items_valid blocks [] whole = tt
items_valid blocks (p ∷ plan) whole = (whole.0.valid, items_valid blocks plan whole.1)

-- a plan has whole items, where there are ids for its works
pub plan_items_whole : (log : Held) (trans : TransView) (plan : List Planned) → IsPlan log trans plan → log.next + length trans.works ≤ IDS
    → AllByRecursion IsWholeItem (logged_in trans.blocks plan)
plan_items_whole log trans plan is ids =
    subst (λ (ps : List Planned). AllByRecursion IsWholeItem (logged_in trans.blocks ps)) (sym is.plan_is) (plan_whole log trans is.valid is.may ids)

pub plan_valid : (blocks : List Changed) (plan : List Planned) → AllByRecursion IsWholeItem (logged_in blocks plan) → All (λ (p : Planned). IsItem p.item) plan
plan_valid blocks plan whole = All-from_recursion (λ (p : Planned). IsItem p.item) plan (items_valid blocks plan whole)

pub plan_names : (log : Held) (trans : TransView) → next_id (logged_items (logged_by log trans)) ≤ log.next + length trans.works
plan_names log trans = plan_ids log.table.items log.next trans log.numbered.from (entries_below log.next log.table.items log.numbered)

-- how many records it fills
pub plan_records : (log : Held) (trans : TransView) (plan : List Planned) (records : ℕ) → IsPlan log trans plan
    → records ≡ (filled_by (logged_in trans.blocks plan) (fill_of log)).records → records ≡ (commit_fill log trans).records
plan_records log trans plan records is are = are ∙ ap (λ (ps : List Planned). (filled_by (logged_in trans.blocks ps) (fill_of log)).records) is.plan_is

pub plan_fills_few : (log : Held) (trans : TransView) (plan : List Planned) (len : ℕ) → IsPlan log trans plan → len ≤ MAX_BODY_BYTES
    → (filled_by (logged_in trans.blocks plan) (record { records = 0; len = len })).records ≤ 12
plan_fills_few log trans plan len is most =
    subst (λ (ps : List Planned). (filled_by (logged_in trans.blocks ps) (record { records = 0; len = len })).records ≤ 12) (sym is.plan_is)
    (commit_fills_few log.table.items log.next len trans is.valid most)

pub plan_given : (log : Held) (trans : TransView) (plan given : List Planned) → IsPlan log trans plan → given ≡ plan → IsPlan log trans given
plan_given log trans plan given is same = subst (IsPlan log trans) (sym same) is

pub full_sectors : (sectors records : ℕ) → sectors ≡ 1 + sectors_of MAX_BODY_BYTES → sectors * records ≡ FULL_SECTORS * records
full_sectors sectors records are = ap (λ (n : ℕ). n * records) (omega (arith, are))

-- whether it wears the log out
abbrev WantsIds : Held → ℕ → Type 0
WantsIds log ids = (0 < ids) × (IDS < log.next + ids)

pub wears_by_cycle : (log : Held) (sectors ids : ℕ) (worn : Bool) → (IsTrue worn ↔ NeedsLastCycle log.growing.last sectors) → (WantsIds log ids → ⊥)
    → (IsTrue worn ↔ WearsOut log sectors ids)
wears_by_cycle log sectors ids worn tells fit = (λ yes. inl (tells.0 yes), λ wears. elim wears [ inl needs ↦ tells.1 needs | inr wants ↦ absurd (fit wants) ])

pub wants_none : (log : Held) (given works : List Work) (wants : Bool) → (IsTrue wants ↔ WantsIds log (length given)) → wants ≡ false → given ≡ works
    → WantsIds log (length works) → ⊥
wants_none log given works wants tells fails same some =
    false≢true (sym fails ∙ tells.1 (subst (λ (ws : List Work). WantsIds log (length ws)) (sym same) some))

pub ids_fit : (log : Held) (ids : ℕ) → (WantsIds log ids → ⊥) → log.next + ids ≤ IDS
ids_fit log ids fit = elim (leb_tells (log.next + ids) IDS) [
  | inl (test, within) ↦ within
  | inr (test, many) ↦ (let to = log.numbered.to in absurd (fit (omega (arith, many, to), many)))
]

-- Its slots

pub slots_placed : (table : List Slotted) → slots_of (map (λ (s : Slotted). (let p : Placing = record { slot = s.slot; work = s.work } in p)) table) ≡ slots_in table
slots_placed [] = refl
slots_placed (s ∷ table) = ap (λ (slots : List ℕ). s.slot ∷ slots) (slots_placed table)

pub has_slots : (log : Held) (trans : TransView) → MayCommit log.uuid (placings_of log) trans → HasSlots log.table.items trans
has_slots log trans may = record {
  pending = subst (λ (slots : List ℕ). All (λ (slot : ℕ). Contains slots slot) trans.done) (slots_placed log.table.items) may.pending;
  differ = may.differ;
  most = let most = may.most in
      let long = length-map log.table.items (λ (s : Slotted). (let p : Placing = record { slot = s.slot; work = s.work } in p)) in omega (arith, most, long);
}

-- it may still be committed when all of it was pushed
pub may_still : (old mid : Held) (trans : TransView) → OnlyPacks old mid → MayCommit old.uuid (placings_of old) trans → MayCommit mid.uuid (placings_of mid) trans
may_still old mid trans same may =
    subst (λ (uuid : List ℕ). MayCommit uuid (placings_of mid) trans) (sym same.uuid)
    (subst (λ (ps : List Placing). MayCommit old.uuid ps trans) (sym (same_placings old mid same)) may)

-- Space

pub commit_has_space : (log : Held) (records : ℕ) → records ≤ 12 → LeavesSectors COMMIT_SECTORS log.growing.last
    → (NeedsLastCycle log.growing.last (FULL_SECTORS * records) → ⊥) → (limit : ℕ) × (limit ≤ cycle_of log + 1) × HasSpace limit log.growing.last records
commit_has_space log records few leaves fresh =
    let last = log.growing.last in
    let below = log.growing.placed.good.cycle in
    elim (leb_tells CYCLES (last.lsn.cycle + 1)) [
      | inl (test, at_end) ↦
          elim (leb_tells (record_end last + FULL_SECTORS * records) LOG_SECTORS) [
            | inl (also, fits) ↦ (
              last.lsn.cycle,
              omega arith,
              inr record {
                few = omega (arith, few);
                cycle = omega arith;
                fits = fits;
                sectors = omega (arith, leaves, few);
              },
            )
            | inr (also, passes) ↦ absurd (fresh (omega (arith, at_end, below), passes))
          ]
      | inr (test, less) ↦ (
        last.lsn.cycle + 1,
        omega arith,
        inl record {
          few = omega (arith, few);
          cycle = omega arith;
          fresh = less;
          sectors = omega (arith, leaves, few);
        },
      )
    ]
