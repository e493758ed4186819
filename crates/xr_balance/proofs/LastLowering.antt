-- The last owner of some blocks goes: the blocks are to be given.
use Rattle.std.proofs.Common.{◌≡◌, ℕ, ◌+◌, ◌-◌, ◌<◌, ◌≤◌, [], ◌∷◌, cond, eqb, arith, refl, ap, sym, ◌∙◌, ⊎_elim}
use Rattle.std.specs.Prelude.{sum_by}
use Rattle.std.proofs.lemmas.Bool.{cases_lt, cases_eq, lt-ltb, le-ltb, eq-eqb, ne_eqb, le-leb, lt-leb}
use Rattle.std.proofs.lemmas.List.Sums.{sum_by-cons}
use Rattle.xr_base.specs.declared.address.Run.{Run}
use Rattle.xr_maps.specs.Steps.{is_within}
use Rattle.xr_items.specs.declared.work.Work.{Work}
use Rattle.xr_items.specs.declared.work.Work.TheVariants.{Free, Count}
use Rattle.xr_items.specs.declared.work.CountKind.TheVariants.{Decrease}
use Rattle.xr_maps.specs.Holdings.{in_run, one_if}
use Rattle.xr_balance.specs.Rolls.{run_back, run_front, works_of_freed}
use Rattle.xr_balance.specs.Works.{freed, lowered, naming}

pub inside_one : (off len o : ℕ) → off ≤ o → o < off + len → one_if (is_within off len o) ≡ 1
inside_one off len o low high = rw (le-leb off o low, lt-ltb o (off + len) high) refl

pub below_none : (off len o : ℕ) → o < off → one_if (is_within off len o) ≡ 0
below_none off len o low = rw (lt-leb off o low) refl

pub above_none : (off len o : ℕ) → off + len ≤ o → one_if (is_within off len o) ≡ 0
above_none off len o high = rw (le-leb off o (omega (arith, high)), le-ltb o (off + len) high) refl

-- a range is its first n and the others
pub in_parts : (off n len o : ℕ) → n ≤ len → one_if (is_within off len o) ≡ one_if (is_within off n o) + one_if (is_within (off + n) (len - n) o)
in_parts off n len o fits = ⊎_elim
    (λ low. omega (arith, below_none off len o low, below_none off n o low, below_none (off + n) (len - n) o (omega (arith, low))))
    (λ from. ⊎_elim
    (λ mid. omega (arith, inside_one off len o from (omega (arith, mid, fits)), inside_one off n o from mid, below_none (off + n) (len - n) o mid))
    (λ past. ⊎_elim
    (λ high. omega (arith, inside_one off len o from high, above_none off n o past, inside_one (off + n) (len - n) o past (omega (arith, high, past))))
    (λ over. omega (arith, above_none off len o over, above_none off n o past, above_none (off + n) (len - n) o (omega (arith, over, fits))))
    (cases_lt o (off + len)))
    (cases_lt o (off + n)))
    (cases_lt o off)

-- what the works that are left name
pub sum-left : (f : Work → ℕ) (run : Run) (n : ℕ) → sum_by f (works_of_freed run n) ≡ f (Free (run_front run n)) + cond (eqb n run.len) 0 (f (Count Decrease (run_back run n)))
sum-left f run n = ⊎_elim
    (λ e. rw (eq-eqb n run.len e) (sum_by-cons f (Free (run_front run n)) []))
    (λ ne. rw (ne_eqb n run.len ne) (sum_by-cons f (Free (run_front run n)) (Count Decrease (run_back run n) ∷ []) ∙ ap (λ k. f (Free (run_front run n)) + k) (sum_by-cons f (Count Decrease (run_back run n)) [] ∙ omega arith)))
    (cases_eq n run.len)

pub none_left : (f : Work → ℕ) (run : Run) (n : ℕ) → f (Free (run_front run n)) ≡ 0 → f (Count Decrease (run_back run n)) ≡ 0 → sum_by f (works_of_freed run n) ≡ 0
none_left f run n free lower = sum-left f run n ∙ ⊎_elim
    (λ e. rw (eq-eqb n run.len e) (omega (arith, free)))
    (λ ne. rw (ne_eqb n run.len ne) (omega (arith, free, lower)))
    (cases_eq n run.len)

-- the blocks of the rest are those of the run but for the first n
pub rest_of_run : (b : ℕ) (run : Run) (n : ℕ) → n ≤ run.len → in_run b (run_front run n) + cond (eqb n run.len) 0 (in_run b (run_back run n)) ≡ in_run b run
rest_of_run b run n fits = ⊎_elim
    (λ e. rw (eq-eqb n run.len e) (omega (arith, in_parts run.start.0 n run.len b fits, above_part b run n e)))
    (λ ne. rw (ne_eqb n run.len ne) (sym (in_parts run.start.0 n run.len b fits)))
    (cases_eq n run.len)
  where
    above_part : (b : ℕ) (run : Run) (n : ℕ) → n ≡ run.len → one_if (is_within (run.start.0 + n) (run.len - n) b) ≡ 0
    above_part b run n e = ⊎_elim
        (λ low. below_none (run.start.0 + n) (run.len - n) b low)
        (λ high. above_none (run.start.0 + n) (run.len - n) b (omega (arith, high, e)))
        (cases_lt b (run.start.0 + n))

pub freed_left : (b : ℕ) (run : Run) (n : ℕ) → sum_by (freed b) (works_of_freed run n) ≡ in_run b (run_front run n)
freed_left b run n = sum-left (freed b) run n ∙ ⊎_elim
    (λ e. rw (eq-eqb n run.len e) (omega arith))
    (λ ne. rw (ne_eqb n run.len ne) (omega arith))
    (cases_eq n run.len)

pub lowered_left : (b : ℕ) (run : Run) (n : ℕ) → n ≤ run.len → sum_by (lowered b) (works_of_freed run n) + in_run b (run_front run n) ≡ in_run b run
lowered_left b run n fits = omega (arith, sum-left (lowered b) run n, rest_of_run b run n fits)

pub named_left : (b : ℕ) (run : Run) (n : ℕ) → n ≤ run.len → sum_by (naming b) (works_of_freed run n) ≡ in_run b run
named_left b run n fits = sum-left (naming b) run n ∙ rest_of_run b run n fits
