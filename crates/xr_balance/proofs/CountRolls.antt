-- Rolls that raise, lower or give blocks keep the balance.
use Rattle.xr_balance.proofs.TotalLemmas.{count-kept}
use Rattle.std.proofs.Common.{◌≡◌, ℕ, ◌+◌, ◌-◌, ◌<◌, ◌≤◌, List, [], cond, eqb, arith, refl, ap, sym, ◌∙◌, true, false, Bool, ⊎_elim, ◌⊎◌, inl, inr}
use Rattle.std.specs.Prelude.{sum_by, All}
use Rattle.std.proofs.lemmas.Bool.{cases_lt, cases_eq, eq-eqb, ne_eqb}
use Rattle.std.proofs.lemmas.List.Sums.{sum_by-cons}
use Rattle.xr_base.specs.declared.address.Run.{Run}
use Rattle.xr_maps.specs.FileMaps.{FileMaps}
use Rattle.xr_maps.specs.Steps.{is_within}
use Rattle.xr_items.specs.declared.work.Work.{Work}
use Rattle.xr_items.specs.declared.work.Work.TheVariants.{Count}
use Rattle.xr_items.specs.declared.work.CountKind.{CountKind}
use Rattle.xr_items.specs.declared.work.CountKind.TheVariants.{Increase, Decrease}
use Rattle.xr_items.specs.Valid.{IsWork}
use Rattle.xr_maps.specs.Holdings.{in_run, one_if, owners}
use Rattle.xr_balance.specs.RollGives.{Moves, works_of_rest}
use Rattle.xr_balance.specs.Rolls.{Rolls, run_back, run_front}
use Rattle.xr_balance.specs.Settled.{Committed, IsDataOf, IsPartedByLane, IsSettled, count_of}
use Rattle.xr_balance.specs.Works.{Debt, freed, lowered, naming, raised, staging, total}
use Rattle.xr_balance.proofs.TotalLemmas.{total-rolls, total_same, count-gone}
use Rattle.xr_balance.proofs.LastLowering.{rest_of_run}
use Rattle.xr_balance.proofs.RollLemmas.{IsCounting, AreCounting, IsPlain, roll_keeps}

pub zero_or_one : (t : Bool) → (one_if t ≡ 0) ⊎ (one_if t ≡ 1)
zero_or_one true = inr refl
zero_or_one false = inl refl

-- what the rest of a run is named for
pub rest-sum : (f : Work → ℕ) (kind : CountKind) (run : Run) (n : ℕ) → sum_by f (works_of_rest kind run n) ≡ cond (eqb n run.len) 0 (f (Count kind (run_back run n)))
rest-sum f kind run n = ⊎_elim
    (λ e. rw (eq-eqb n run.len e) refl)
    (λ ne. rw (ne_eqb n run.len ne) (sum_by-cons f (Count kind (run_back run n)) [] ∙ omega arith))
    (cases_eq n run.len)

pub rest-none : (f : Work → ℕ) (kind : CountKind) (run : Run) (n : ℕ) → f (Count kind (run_back run n)) ≡ 0 → sum_by f (works_of_rest kind run n) ≡ 0
rest-none f kind run n none = rest-sum f kind run n ∙ ⊎_elim
    (λ e. rw (eq-eqb n run.len e) refl)
    (λ ne. rw (ne_eqb n run.len ne) none)
    (cases_eq n run.len)

rest-counting : (kind : CountKind) (run : Run) (n : ℕ) → IsCounting (Count kind (run_back run n)) → AreCounting (works_of_rest kind run n)
rest-counting kind run n is = ⊎_elim
    (λ e. rw (eq-eqb n run.len e) tt)
    (λ ne. rw (ne_eqb n run.len ne) (is, tt))
    (cases_eq n run.len)

pub front_in_run : (b : ℕ) (run : Run) (n : ℕ) → n ≤ run.len → in_run b (run_front run n) ≡ 1 → in_run b run ≡ 1
front_in_run b run n fits it = ⊎_elim
    (λ none. absurd (omega (arith, none, it, rest_of_run b run n fits)))
    (λ one. one)
    (zero_or_one (is_within run.start.0 run.len b))

-- a block that is given, or free, is neither raised nor lowered, and has no owner
pub record IsGiven (P : List Debt) (M : FileMaps) (Q : ℕ → Bool) (b : ℕ) : Type 0 where
  pub unraised : total (raised b) P ≡ 0
  pub unlowered : total (lowered b) P ≡ 0
  pub unowned : owners M b ≡ 0
  pub unstaged : Q b ≡ false

not_true : (t : Bool) → one_if t ≡ 0 → t ≡ false
not_true true h = absurd (omega (arith, h))
not_true false h = refl

pub count-free : (C : Committed) (P : List Debt) (b : ℕ) → C.is_free b ≡ true → count_of C P b ≡ 0
count-free C P b free = rw free refl

pub given_when_zero : {C : Committed} {P : List Debt} {M : FileMaps} {Q : ℕ → Bool} (b : ℕ) → IsSettled C P M Q → IsDataOf C b → count_of C P b ≡ 0 → IsGiven P M Q b
given_when_zero {C} {P} {M} {Q} b was is_data none =
    let balance = was.counts b is_data in
    let two = was.blocks.two_owners b in
    record {
      unraised = omega (arith, balance, two, none);
      unlowered = omega (arith, balance, two, none);
      unowned = omega (arith, balance, two, none);
      unstaged = not_true (Q b) (omega (arith, balance, two, none));
    }

-- a block that is raised or lowered is there to be counted
pub counted_there : {C : Committed} {P : List Debt} {M : FileMaps} {Q : ℕ → Bool} (b : ℕ) → IsSettled C P M Q → IsDataOf C b
    → 0 < total (raised b) P + total (lowered b) P → (C.is_free b ≡ false) × (total (freed b) P ≡ 0)
counted_there {C} {P} {M} {Q} b was is_data more = (
  elim (C.is_free b) as (λ t. C.is_free b ≡ t → t ≡ false) [
    | true ↦ λ e. let it = given_when_zero b was is_data (count-free C P b e) in absurd (omega (arith, more, it.unraised, it.unlowered))
    | false ↦ λ _. refl
  ] refl,
  ⊎_elim
      (λ some. ⊎_elim
      (λ (e : C.is_free b ≡ false). let it = given_when_zero b was is_data (count-gone C P b e some) in absurd (omega (arith, more, it.unraised, it.unlowered)))
      (λ (e : C.is_free b ≡ true). let it = given_when_zero b was is_data (count-free C P b e) in absurd (omega (arith, more, it.unraised, it.unlowered)))
      (false_or_true (C.is_free b)))
      (λ none. omega (arith, none))
      (cases_lt 0 (total (freed b) P)),
)
  where
    false_or_true : (t : Bool) → (t ≡ false) ⊎ (t ≡ true)
    false_or_true true = inr refl
    false_or_true false = inl refl

abbrev with_counts : Committed → (ℕ → ℕ) → Committed
with_counts C counts = record C { counted = counts }

plain_count : (kind : CountKind) (run : Run) → IsPlain (Count kind run)
plain_count kind run = record { at = λ f o. refl; takes = λ B f o b. refl; brings = λ B f o b. refl }

-- what a roll is given that changes counts of blocks which the work names, each by what the list of works says
record Recounts (C : Committed) (P : List Debt) (Q : ℕ → Bool) (i lane : ℕ) (kind : CountKind) (run : Run) (new : List Work) (counts : ℕ → ℕ) (P' : List Debt) : Type 0 where
  pub rolls : Rolls P i lane (Count kind run) new P'
  pub counting : AreCounting new
  pub valid : All (λ d. IsWork d.work) P'
  pub parted : IsPartedByLane P'
  pub moved : Moves C (Count kind run) (with_counts C counts)
  pub unfreed : (b : ℕ) → total (freed b) P' ≡ total (freed b) P
  pub stays : (b : ℕ) → total (staging b) P' ≡ total (staging b) P
  pub names : (b : ℕ) → total (naming b) P' ≤ total (naming b) P
  pub counted_some : (b : ℕ) → 1 ≤ counts b
  pub raises : (b : ℕ) → total (raised b) P' ≤ total (raised b) P
  pub lowers : (b : ℕ) → total (lowered b) P' ≤ total (lowered b) P
  -- the count changes only where the work names the block, and by what it owes less
  pub same : (b : ℕ) → (counts b ≡ C.counted b) × (total (raised b) P' ≡ total (raised b) P) × (total (lowered b) P' ≡ total (lowered b) P)
      ⊎ (IsDataOf C b) × (0 < total (raised b) P + total (lowered b) P) × (counts b + total (raised b) P' + total (lowered b) P ≡ C.counted b + total (raised b) P + total (lowered b) P')

count-recount : (C : Committed) (P P' : List Debt) (counts : ℕ → ℕ) (b : ℕ) → counts b ≡ C.counted b → total (freed b) P' ≡ total (freed b) P → count_of (with_counts C counts) P' b ≡ count_of C P b
count-recount C P P' counts b same frees = rw (same, frees) refl

recount_keeps : {C : Committed} {P P' : List Debt} {M : FileMaps} {Q : ℕ → Bool} {i lane : ℕ} {kind : CountKind} {run : Run} {new : List Work} {counts : ℕ → ℕ}
    → IsSettled C P M Q → Recounts C P Q i lane kind run new counts P' → IsSettled (with_counts C counts) P' M Q
recount_keeps {C} {P} {P'} {M} {Q} {i} {lane} {kind} {run} {new} {counts} was it =
    -- what is staged, free or given isn't named
    let apart : (b : ℕ) → (0 < total (raised b) P + total (lowered b) P → ⊥) → counts b ≡ C.counted b = λ b not. ⊎_elim (λ s. s.0) (λ s. absurd (not s.1)) (it.same b) in
    roll_keeps was (record {
      rolls = it.rolls;
      counting = it.counting;
      plain = plain_count kind run;
      moves = it.moved;
      counts = λ b is_data. ⊎_elim
          (λ s. omega (arith, was.counts b is_data, count-recount C P P' counts b s.0 (it.unfreed b), s.1, s.2))
          (λ s. let there = counted_there b was is_data s.1 in
          omega (arith, was.counts b is_data, count-kept C P b there.0 there.1, count-kept (with_counts C counts) P' b there.0 (it.unfreed b ∙ there.1), s.2))
          (it.same b);
      stagings = λ b more. apart b (λ named.
          let off : one_if (Q b) ≡ 0 = rw ((was.blocks.counted_unstaged b named).1) refl in
          let no : one_if (C.is_staged b) ≡ 0 = rw ((was.blocks.counted_unstaged b named).0) refl in
          absurd (omega (arith, off, no, more, it.stays b, was.staging.staged b, was.due.unstagings b)))
          ∙ was.due.stagings b (omega (arith, more, it.stays b));
      blocks = record {
        counted_some = it.counted_some;
        owned_data = was.blocks.owned_data;
        named_groups = λ b some. was.blocks.named_groups b (omega (arith, some, it.names b));
        counted_unstaged = λ b more. was.blocks.counted_unstaged b (omega (arith, more, it.raises b, it.lowers b));
        free_unnamed = λ b free. omega (arith, was.blocks.free_unnamed b free, it.names b);
        free_unshared = λ b free. ⊎_elim
            (λ s. s.0 ∙ was.blocks.free_unshared b free)
            (λ s. absurd (omega (arith, ap one_if (sym free ∙ (counted_there b was s.0 s.1).0))))
            (it.same b);
        freed_unshared = λ b more. ⊎_elim
            (λ s. s.0 ∙ was.blocks.freed_unshared b (omega (arith, more, it.unfreed b)))
            (λ s. absurd (omega (arith, more, it.unfreed b, (counted_there b was s.0 s.1).1)))
            (it.same b);
        freed_once = λ b. omega (arith, it.unfreed b, was.blocks.freed_once b);
        staged_once = λ b. omega (arith, it.stays b, was.blocks.staged_once b);
        two_owners = λ b. omega (arith, it.raises b, was.blocks.two_owners b);
      };
      valid = it.valid;
      parted = it.parted;
    })

-- the first part of a run is raised: a block that is raised has two owners, so it is neither free nor to be given
pub raise_keeps : {C : Committed} {P P' : List Debt} {M : FileMaps} {Q : ℕ → Bool} {i lane n : ℕ} {run : Run}
    → IsSettled C P M Q → Rolls P i lane (Count Increase run) (works_of_rest Increase run n) P' → n ≤ run.len → ((b : ℕ) → in_run b run ≡ 1 → IsDataOf C b)
    → All (λ d. IsWork d.work) P' → IsPartedByLane P' → IsSettled (with_counts C (λ b. C.counted b + in_run b (run_front run n))) P' M Q
raise_keeps {C} {P} {P'} {M} {Q} {i} {lane} {n} {run} was rolls fits blocks valid parted =
    let same : (f : Work → ℕ) → f (Count Increase run) ≡ 0 → f (Count Increase (run_back run n)) ≡ 0 → total f P' ≡ total f P = λ f a b. total_same f rolls (a ∙ sym (rest-none f Increase run n b)) in
    let raises : (b : ℕ) → total (raised b) P' + in_run b (run_front run n) ≡ total (raised b) P = λ b. omega (arith, total-rolls (raised b) rolls, rest-sum (raised b) Increase run n, rest_of_run b run n fits) in
    recount_keeps was (record {
      rolls = rolls;
      counting = rest-counting Increase run n tt;
      valid = valid;
      parted = parted;
      moved = record { groups = refl; maps = λ f o b. refl; mapped = λ f o. refl; pairs = λ f o b. refl; staging_pairs = λ b. refl; staged = λ b. refl };
      unfreed = λ b. same (freed b) refl refl;
      stays = λ b. same (staging b) refl refl;
      names = λ b. omega (arith, total-rolls (naming b) rolls, rest-sum (naming b) Increase run n, rest_of_run b run n fits);
      counted_some = λ b. omega (arith, was.blocks.counted_some b);
      raises = λ b. omega (arith, raises b);
      lowers = λ b. omega (arith, same (lowered b) refl refl);
      same = λ b. ⊎_elim
          (λ none. inl (omega (arith, none), omega (arith, raises b, none), same (lowered b) refl refl))
          (λ one. inr (blocks b (front_in_run b run n fits one), omega (arith, raises b, one), omega (arith, raises b, one, same (lowered b) refl refl)))
          (zero_or_one (is_within run.start.0 n b));
    })

-- the first part of a run is lowered where its count is greater than 1
pub lower_keeps : {C : Committed} {P P' : List Debt} {M : FileMaps} {Q : ℕ → Bool} {i lane n : ℕ} {run : Run}
    → IsSettled C P M Q → Rolls P i lane (Count Decrease run) (works_of_rest Decrease run n) P' → n ≤ run.len → ((b : ℕ) → in_run b run ≡ 1 → IsDataOf C b)
    → ((b : ℕ) → in_run b (run_front run n) ≡ 1 → 1 < C.counted b)
    → All (λ d. IsWork d.work) P' → IsPartedByLane P' → IsSettled (with_counts C (λ b. C.counted b - in_run b (run_front run n))) P' M Q
lower_keeps {C} {P} {P'} {M} {Q} {i} {lane} {n} {run} was rolls fits blocks some valid parted =
    let same : (f : Work → ℕ) → f (Count Decrease run) ≡ 0 → f (Count Decrease (run_back run n)) ≡ 0 → total f P' ≡ total f P = λ f a b. total_same f rolls (a ∙ sym (rest-none f Decrease run n b)) in
    let lowers : (b : ℕ) → total (lowered b) P' + in_run b (run_front run n) ≡ total (lowered b) P = λ b. omega (arith, total-rolls (lowered b) rolls, rest-sum (lowered b) Decrease run n, rest_of_run b run n fits) in
    recount_keeps was (record {
      rolls = rolls;
      counting = rest-counting Decrease run n tt;
      valid = valid;
      parted = parted;
      moved = record { groups = refl; maps = λ f o b. refl; mapped = λ f o. refl; pairs = λ f o b. refl; staging_pairs = λ b. refl; staged = λ b. refl };
      unfreed = λ b. same (freed b) refl refl;
      stays = λ b. same (staging b) refl refl;
      names = λ b. omega (arith, total-rolls (naming b) rolls, rest-sum (naming b) Decrease run n, rest_of_run b run n fits);
      raises = λ b. omega (arith, same (raised b) refl refl);
      counted_some = λ b. ⊎_elim (λ none. omega (arith, none, was.blocks.counted_some b)) (λ one. omega (arith, one, some b one)) (zero_or_one (is_within run.start.0 n b));
      lowers = λ b. omega (arith, lowers b);
      same = λ b. ⊎_elim
          (λ none. inl (omega (arith, none), same (raised b) refl refl, omega (arith, lowers b, none)))
          (λ one. inr (blocks b (front_in_run b run n fits one), omega (arith, lowers b, one), omega (arith, lowers b, one, some b one, same (raised b) refl refl)))
          (zero_or_one (is_within run.start.0 n b));
    })
