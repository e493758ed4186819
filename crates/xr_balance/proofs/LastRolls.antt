-- Rolls that find blocks without an owner, and that give blocks, keep the balance.
use Rattle.std.proofs.Common.{◌≡◌, ℕ, ◌+◌, ◌<◌, ◌≤◌, suc, List, [], ◌∷◌, length, get_or, cond, arith, refl, ap, sym, ◌∙◌, true, false, Bool, ⊎_elim, ◌⊎◌, inl, inr, append-nil}
use Rattle.std.specs.Prelude.{sum_by, remove, nat_lt, IsTrue, All, ◌||◌}
use Rattle.std.proofs.lemmas.Bool.{cases_lt, cases_eq, lt-ltb, eq-eqb, ne_eqb}
use Rattle.std.proofs.lemmas.List.Sums.{sum_by-cons}
use Rattle.std.proofs.lemmas.List.Edits.{get_or-remove_below, get_or-remove_above, length-remove}
use Rattle.xr_base.specs.declared.address.Run.{Run}
use Rattle.xr_maps.specs.FileMaps.{FileMaps}
use Rattle.xr_maps.specs.Steps.{is_within}
use Rattle.xr_items.specs.declared.work.Work.{Work}
use Rattle.xr_items.specs.declared.work.Work.TheVariants.{Free, Count}
use Rattle.xr_items.specs.declared.work.CountKind.TheVariants.{Decrease}
use Rattle.xr_items.specs.Valid.{IsWork}
use Rattle.xr_maps.specs.Holdings.{in_run, one_if}
use Rattle.xr_balance.specs.Rolls.{Rolls, run_back, run_front, in_lane, works_of_freed}
use Rattle.xr_balance.specs.Settled.{Committed, IsDataOf, IsPartedByLane, IsSettled, count_of}
use Rattle.xr_balance.specs.Works.{Debt, freed, lowered, naming, raised, staging, total}
use Rattle.xr_balance.proofs.TotalLemmas.{total-rolls, total_same, work-le-total, count-gone, IsLastLowering, last_lowering}
use Rattle.xr_balance.proofs.LastLowering.{none_left, freed_left, lowered_left, named_left}
use Rattle.xr_balance.proofs.RollLemmas.{AreCounting, roll_keeps}
use Rattle.xr_balance.proofs.CountRolls.{zero_or_one, front_in_run}

count_same : (C : Committed) (P P' : List Debt) (b : ℕ) → total (freed b) P' ≡ total (freed b) P → count_of C P' b ≡ count_of C P b
count_same C P P' b same = rw same refl

-- what a roll of the last lowering is given
pub record LowersLast (C : Committed) (P : List Debt) (i lane : ℕ) (run : Run) (n : ℕ) (P' : List Debt) : Type 0 where
  pub rolls : Rolls P i lane (Count Decrease run) (works_of_freed run n) P'
  pub fits : n ≤ run.len
  pub blocks : (b : ℕ) → in_run b run ≡ 1 → IsDataOf C b
  pub ones : (b : ℕ) → in_run b (run_front run n) ≡ 1 → C.counted b ≡ 1

pub last_at : {C : Committed} {P P' : List Debt} {M : FileMaps} {Q : ℕ → Bool} {i lane n : ℕ} {run : Run} (b : ℕ)
    → IsSettled C P M Q → LowersLast C P i lane run n P' → in_run b (run_front run n) ≡ 1 → IsLastLowering C P M Q b
last_at {n = n} {run = run} b was lowers it =
    let whole : in_run b run ≡ 1 = front_in_run b run n lowers.fits it in
    last_lowering b was.blocks was.counts (lowers.blocks b whole) (lowers.ones b it)
    (omega (arith, work-le-total (lowered b) lowers.rolls, whole))
    (omega (arith, work-le-total (naming b) lowers.rolls, whole))

freed_counting : (run : Run) (n : ℕ) → AreCounting (works_of_freed run n)
freed_counting run n = ⊎_elim
    (λ e. rw (eq-eqb n run.len e) (tt, tt))
    (λ ne. rw (ne_eqb n run.len ne) (tt, (tt, tt)))
    (cases_eq n run.len)

-- the last owner of the run's first blocks is gone, and they are to be given
pub lower_last_keeps : {C : Committed} {P P' : List Debt} {M : FileMaps} {Q : ℕ → Bool} {i lane n : ℕ} {run : Run}
    → IsSettled C P M Q → LowersLast C P i lane run n P' → All (λ d. IsWork d.work) P' → IsPartedByLane P' → IsSettled C P' M Q
lower_last_keeps {C} {P} {P'} {M} {Q} {i} {lane} {n} {run} was lowers valid parted =
    let rolls = lowers.rolls in
    let kept : (f : Work → ℕ) → f (Count Decrease run) ≡ 0 → f (Free (run_front run n)) ≡ 0 → f (Count Decrease (run_back run n)) ≡ 0 → total f P' ≡ total f P =
    λ f none free lower. total_same f rolls (none ∙ sym (none_left f run n free lower)) in
    let raising : (b : ℕ) → total (raised b) P' ≡ total (raised b) P = λ b. kept (raised b) refl refl refl in
    let stages : (b : ℕ) → total (staging b) P' ≡ total (staging b) P = λ b. kept (staging b) refl refl refl in
    let names : (b : ℕ) → total (naming b) P' ≡ total (naming b) P = λ b. total_same (naming b) rolls (sym (named_left b run n lowers.fits)) in
    let frees : (b : ℕ) → total (freed b) P' ≡ total (freed b) P + in_run b (run_front run n) = λ b. omega (arith, total-rolls (freed b) rolls, freed_left b run n) in
    let lowering : (b : ℕ) → total (lowered b) P' + in_run b (run_front run n) ≡ total (lowered b) P = λ b. omega (arith, total-rolls (lowered b) rolls, lowered_left b run n lowers.fits) in
    roll_keeps was (record {
      rolls = rolls;
      counting = freed_counting run n;
      plain = record { at = λ f o. refl; takes = λ B f o b. refl; brings = λ B f o b. refl };
      moves = record { groups = refl; maps = λ f o b. refl; mapped = λ f o. refl; pairs = λ f o b. refl; staging_pairs = λ b. refl; staged = λ b. refl };
      counts = λ b is_data. ⊎_elim
          (λ none. omega (arith, was.counts b is_data, count_same C P P' b (omega (arith, frees b, none)), raising b, lowering b, none))
          (λ it. let last = last_at b was lowers it in
          let unstaged : one_if (Q b) ≡ 0 = rw (last.unstaged) refl in
          omega (arith, count-gone C P' b last.unfree (omega (arith, frees b, it)), raising b, last.not_raised, last.lowered_once, last.unowned, unstaged, lowering b, it))
          (zero_or_one (is_within run.start.0 n b));
      stagings = λ b more. was.due.stagings b (omega (arith, more, stages b));
      blocks = record {
        counted_some = was.blocks.counted_some;
        owned_data = was.blocks.owned_data;
        named_groups = λ b some. was.blocks.named_groups b (omega (arith, some, names b));
        counted_unstaged = λ b more. was.blocks.counted_unstaged b (omega (arith, more, raising b, lowering b));
        free_unnamed = λ b free. names b ∙ was.blocks.free_unnamed b free;
        free_unshared = was.blocks.free_unshared;
        freed_unshared = λ b more. ⊎_elim
            (λ none. was.blocks.freed_unshared b (omega (arith, more, frees b, none)))
            (λ it. lowers.ones b it)
            (zero_or_one (is_within run.start.0 n b));
        freed_once = λ b. ⊎_elim
            (λ none. omega (arith, frees b, none, was.blocks.freed_once b))
            (λ it. omega (arith, frees b, it, (last_at b was lowers it).not_given))
            (zero_or_one (is_within run.start.0 n b));
        staged_once = λ b. omega (arith, stages b, was.blocks.staged_once b);
        two_owners = λ b. omega (arith, raising b, was.blocks.two_owners b);
      };
      valid = valid;
      parted = parted;
    })

sum_none : (f : Debt → ℕ) (xs : List Debt) → ((k : ℕ) (d : Debt) → k < length xs → f (get_or xs k d) ≡ 0) → sum_by f xs ≡ 0
sum_none f [] none = refl
sum_none f (x ∷ xs) none = omega (arith, sum_by-cons f x xs, none 0 x (omega arith), sum_none f xs (λ k d l. none (suc k) d (omega (arith, l))))

-- what a lane gives, no other pending work names
pub unnamed_others : {P P' : List Debt} {i lane : ℕ} {run : Run} (b : ℕ) → IsPartedByLane P → Rolls P i lane (Free run) [] P' → in_run b run ≡ 1 → total (naming b) P' ≡ 0
unnamed_others {P} {P'} {i} {lane} {run} b parted rolls it =
    let w : Debt = in_lane lane (Free run) in
    let rest : total (naming b) (remove P i) ≡ 0 = sum_none (λ d. naming b d.work) (remove P i) (λ k d inside.
    let len = length-remove P i rolls.first.inside in
    ⊎_elim
    (λ below. rw (get_or-remove_below P i d k below rolls.first.inside) (⊎_elim
    (λ named. absurd (rolls.first.none_before k d below
    ((parted.agree k i d below rolls.first.inside).before b named (rw (rolls.first.is_work d) (omega (arith, it))) ∙ ap (λ (e : Debt). e.lane) (rolls.first.is_work d))))
    (λ none. omega (arith, none))
    (cases_lt 0 (naming b (get_or P k d).work))))
    (λ above. rw (get_or-remove_above P i d k above rolls.first.inside)
    ((parted.agree i (k + 1) d (omega (arith, above)) (omega (arith, inside, len))).after b (rw (rolls.first.is_work d) (omega (arith, it)))))
    (cases_lt k i)) in
    ap (total (naming b)) (rolls.after ∙ append-nil (remove P i)) ∙ rest

abbrev pub with_freed : Committed → Run → Committed
with_freed C run = record C { is_free = λ b. C.is_free b || is_within run.start.0 run.len b }

or_free : (s t : Bool) → IsTrue (s || t) → (IsTrue s) ⊎ (one_if t ≡ 1)
or_free true t h = inl refl
or_free false true h = inr refl
or_free false false h = inl h

count-free : (s t : Bool) (x y k : ℕ) → y + one_if t ≡ x → (one_if t ≡ 1 → x ≡ 1)
    → cond (s || t || nat_lt 0 y) 0 k ≡ cond (s || nat_lt 0 x) 0 k
count-free true t x y k e h = refl
count-free false true x y k e h = rw (lt-ltb 0 x (omega (arith, e))) refl
count-free false false x y k e h = ap (λ z. cond (nat_lt 0 z) 0 k) (omega (arith, e))

-- a run is given
pub free_roll_keeps : {C : Committed} {P P' : List Debt} {M : FileMaps} {Q : ℕ → Bool} {i lane : ℕ} {run : Run}
    → IsSettled C P M Q → Rolls P i lane (Free run) [] P' → All (λ d. IsWork d.work) P' → IsPartedByLane P' → IsSettled (with_freed C run) P' M Q
free_roll_keeps {C} {P} {P'} {M} {Q} {i} {lane} {run} was rolls valid parted =
    let gone : (f : Work → ℕ) → total f P' + f (Free run) ≡ total f P = λ f. omega (arith, total-rolls f rolls) in
    let kept : (f : Work → ℕ) → f (Free run) ≡ 0 → total f P' ≡ total f P = λ f none. omega (arith, gone f, none) in
    let freeing : (b : ℕ) → total (freed b) P' + in_run b run ≡ total (freed b) P = λ b. gone (freed b) in
    roll_keeps was (record {
      rolls = rolls;
      counting = tt;
      plain = record { at = λ f o. refl; takes = λ B f o b. refl; brings = λ B f o b. refl };
      moves = record { groups = refl; maps = λ f o b. refl; mapped = λ f o. refl; pairs = λ f o b. refl; staging_pairs = λ b. refl; staged = λ b. refl };
      counts = λ b is_data. rw (kept (raised b) refl, kept (lowered b) refl)
          (ap (λ n. n + total (raised b) P) (count-free (C.is_free b) (is_within run.start.0 run.len b) (total (freed b) P) (total (freed b) P') (C.counted b) (freeing b)
          (λ it. omega (arith, freeing b, was.blocks.freed_once b, it))) ∙ was.counts b is_data);
      stagings = λ b more. was.due.stagings b (omega (arith, more, kept (staging b) refl));
      blocks = record {
        counted_some = was.blocks.counted_some;
        owned_data = was.blocks.owned_data;
        named_groups = λ b some. was.blocks.named_groups b (omega (arith, some, gone (naming b)));
        counted_unstaged = λ b. rw (kept (raised b) refl, kept (lowered b) refl) (was.blocks.counted_unstaged b);
        free_unnamed = λ b free. ⊎_elim
            (λ already. omega (arith, was.blocks.free_unnamed b already, gone (naming b)))
            (λ it. unnamed_others b was.parted rolls it)
            (or_free (C.is_free b) (is_within run.start.0 run.len b) free);
        free_unshared = λ b free. ⊎_elim
            (λ already. was.blocks.free_unshared b already)
            (λ it. was.blocks.freed_unshared b (omega (arith, freeing b, it)))
            (or_free (C.is_free b) (is_within run.start.0 run.len b) free);
        freed_unshared = λ b more. was.blocks.freed_unshared b (omega (arith, more, freeing b));
        freed_once = λ b. omega (arith, was.blocks.freed_once b, freeing b);
        staged_once = λ b. rw (kept (staging b) refl) (was.blocks.staged_once b);
        two_owners = λ b. rw (kept (raised b) refl) (was.blocks.two_owners b);
      };
      valid = valid;
      parted = parted;
    })
