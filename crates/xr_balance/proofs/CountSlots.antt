-- A first commit changes the owners of a block by what its run names.
use Rattle.std.proofs.Common.{◌≡◌, ℕ, ◌+◌, ◌-◌, ◌<◌, ◌≤◌, zero, suc, cond, eqb, arith, refl, ap, sym, ◌∙◌, true, false, Bool, ⊎_elim, ◌⊎◌, inl, inr}
use Rattle.std.specs.Prelude.{◌≢◌, ◌&&◌}
use Rattle.std.proofs.lemmas.Bool.{cases_lt, cases_eq, lt-ltb, le-ltb, eq-eqb, ne_eqb, le-leb, lt-leb}
use Rattle.xr_base.specs.declared.address.Run.{Run}
use Rattle.xr_base.specs.declared.geometry.TheConstants.{FILES, OFFSETS}
use Rattle.xr_maps.specs.FileMaps.{FileMaps}
use Rattle.xr_maps.specs.Steps.{is_within}
use Rattle.xr_maps.specs.Holdings.{holds, in_layout, in_run, one_if, owners, owners_of_file, sum_below}
use Rattle.xr_balance.proofs.LastLowering.{inside_one, below_none, above_none}

pub sum_below-balance : (n : ℕ) (f u g v : ℕ → ℕ) → ((k : ℕ) → k < n → f k + u k ≡ g k + v k) → sum_below n f + sum_below n u ≡ sum_below n g + sum_below n v
unfolding sum_below
sum_below-balance zero f u g v h = refl
sum_below-balance (suc n) f u g v h = omega (arith, h n (omega arith), sum_below-balance n f u g v (λ k l. h k (omega (arith, l))))

pub sum_below-none : (n : ℕ) (f : ℕ → ℕ) → ((k : ℕ) → k < n → f k ≡ 0) → sum_below n f ≡ 0
unfolding sum_below
sum_below-none zero f h = refl
sum_below-none (suc n) f h = omega (arith, h n (omega arith), sum_below-none n f (λ k l. h k (omega (arith, l))))

-- a sum with one term only
pub sum_below-one : (n at : ℕ) (f : ℕ → ℕ) → at < n → ((k : ℕ) → k < n → k ≢ at → f k ≡ 0) → sum_below n f ≡ f at
unfolding sum_below
sum_below-one zero at f l h = absurd (omega (arith, l))
sum_below-one (suc n) at f l h = ⊎_elim
    (λ e. let rest : sum_below n f ≡ 0 = sum_below-none n f (λ k kl. h k (omega (arith, kl)) (λ same. absurd (omega (arith, same, e, kl)))) in omega (arith, rest, ap f e))
    (λ ne. omega (arith, h n (omega arith) ne, sum_below-one n at f (omega (arith, l, ne)) (λ k kl kn. h k (omega (arith, kl)) kn)))
    (cases_eq n at)

layout_off : (b o off : ℕ) (run : Run) → b + off ≢ run.start.0 + o → in_layout b o off run ≡ 0
layout_off b o off run ne = rw (ne_eqb (b + off) (run.start.0 + o) ne) (no_and (is_within off run.len o))
  where
    no_and : (t : Bool) → one_if (t && false) ≡ 0
    no_and true = refl
    no_and false = refl

layout_out : (b o off : ℕ) (run : Run) → (o < off) ⊎ (off + run.len ≤ o) → in_layout b o off run ≡ 0
layout_out b o off run out = ⊎_elim
    (λ low. rw (lt-leb off o low) refl)
    (λ high. rw (le-leb off o (omega (arith, high)), le-ltb o (off + run.len) high) refl)
    out

-- laid out in a file, a run has each of its blocks once
pub sum-layout : (b off : ℕ) (run : Run) → off + run.len ≤ OFFSETS → sum_below OFFSETS (λ o. in_layout b o off run) ≡ in_run b run
sum-layout b off run fits = ⊎_elim
    (λ low. sum_below-none OFFSETS _ (λ o _. ⊎_elim
    (λ under. layout_out b o off run (inl under))
    (λ from. layout_off b o off run (λ e. absurd (omega (arith, low, from, e))))
    (cases_lt o off)) ∙ sym (below_none run.start.0 run.len b low))
    (λ from. ⊎_elim
    (λ inside. let at : ℕ = off + (b - run.start.0) in
    sum_below-one OFFSETS at (λ o. in_layout b o off run) (omega (arith, from, inside, fits))
    (λ o _ ne. layout_off b o off run (λ e. ne (omega (arith, from, e))))
    ∙ rw (le-leb off at (omega arith), lt-ltb at (off + run.len) (omega (arith, from, inside)), eq-eqb (b + off) (run.start.0 + at) (omega (arith, from))) refl
    ∙ sym (inside_one run.start.0 run.len b from inside))
    (λ high. sum_below-none OFFSETS _ (λ o _. ⊎_elim
    (λ below. layout_off b o off run (λ e. absurd (omega (arith, high, e, below))))
    (λ past. layout_out b o off run (inr past))
    (cases_lt o (off + run.len))) ∙ sym (above_none run.start.0 run.len b high))
    (cases_lt b (run.start.0 + run.len)))
    (cases_lt b run.start.0)

-- what a step does to one file's offsets, it does to the numbers of owners
pub owners_after : (b file off : ℕ) (old : Run) (M M' : FileMaps) → file < FILES → off + old.len ≤ OFFSETS
    → ((f o : ℕ) → holds M' f o b + cond (eqb file f) (in_layout b o off old) 0 ≡ holds M f o b)
    → owners M' b + in_run b old ≡ owners M b
owners_after b file off old M M' is_file fits step =
    let taken : ℕ → ℕ = λ f. sum_below OFFSETS (λ o. cond (eqb file f) (in_layout b o off old) 0) in
    let each : (f : ℕ) → owners_of_file M' b f + taken f ≡ owners_of_file M b f + 0 = λ f.
    sum_below-balance OFFSETS (λ o. holds M' f o b) (λ o. cond (eqb file f) (in_layout b o off old) 0) (λ o. holds M f o b) (λ _. 0) (λ o _. omega (arith, step f o))
    ∙ ap (λ n. owners_of_file M b f + n) (sum_below-none OFFSETS (λ _. 0) (λ _ _. refl)) in
    let there : taken file ≡ in_run b old = rw (eq-eqb file file refl) (sum-layout b off old fits) in
    let elsewhere : (f : ℕ) → f < FILES → f ≢ file → taken f ≡ 0 = λ f _ ne. rw (ne_eqb file f (λ e. ne (sym e))) (sum_below-none OFFSETS (λ _. 0) (λ _ _. refl)) in
    let total_taken : sum_below FILES taken ≡ in_run b old = sum_below-one FILES file taken is_file elsewhere ∙ there in
    let all = sum_below-balance FILES (owners_of_file M' b) taken (owners_of_file M b) (λ _. 0) (λ f _. each f) in
    omega (arith, all, total_taken, sum_below-none FILES (λ _. 0) (λ _ _. refl))
