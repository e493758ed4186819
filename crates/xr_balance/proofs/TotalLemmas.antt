-- What the pending works name together, before and after a roll.
use Rattle.std.proofs.Common.{◌≡◌, ℕ, ◌+◌, ◌*◌, ◌<◌, ◌≤◌, List, [], ◌∷◌, ◌++◌, get_or, arith, refl, ap, sym, ◌∙◌, true, false, map, Bool, ⊎_elim, ◌⊎◌, inl, inr}
use Rattle.std.specs.Prelude.{sum_by, remove}
use Rattle.std.proofs.lemmas.Bool.{cases_lt, lt-ltb}
use Rattle.std.proofs.lemmas.List.Sums.{sum_by-append, sum_by-cons, sum_by-remove, get_or-le-sum_by}
use Rattle.xr_maps.specs.FileMaps.{FileMaps}
use Rattle.xr_items.specs.declared.work.Work.{Work}
use Rattle.xr_maps.specs.Holdings.{one_if, owners}
use Rattle.xr_balance.specs.Rolls.{Rolls, in_lane}
use Rattle.xr_balance.specs.Settled.{BlocksAgree, Committed, CountsSettle, IsDataOf, count_of}
use Rattle.xr_balance.specs.Works.{Debt, freed, lowered, naming, raised, total}

pub sum_by-in_lane : (f : Work → ℕ) (lane : ℕ) (new : List Work) → total f (map (in_lane lane) new) ≡ sum_by f new
sum_by-in_lane f lane [] = refl
sum_by-in_lane f lane (w ∷ new) = sum_by-cons (λ (d : Debt). f d.work) (in_lane lane w) (map (in_lane lane) new) ∙ rw (sum_by-in_lane f lane new) (sym (sum_by-cons f w new))

-- a roll takes its work out of each total, and puts its new works in
pub total-rolls : (f : Work → ℕ) {P P' : List Debt} {i lane : ℕ} {w : Work} {new : List Work} → Rolls P i lane w new P'
    → total f P' + f w ≡ total f P + sum_by f new
total-rolls f {P} {P'} {i} {lane} {w} {new} rolls =
    let d : Debt = in_lane lane w in
    let g : Debt → ℕ = λ e. f e.work in
    let less : total f (remove P i) + f (get_or P i d).work ≡ total f P = sum_by-remove g P i d rolls.first.inside in
    let it : f (get_or P i d).work ≡ f w = ap g (rolls.first.is_work d) in
    let more : total f (remove P i ++ map (in_lane lane) new) ≡ total f (remove P i) + total f (map (in_lane lane) new) = sum_by-append g (remove P i) (map (in_lane lane) new) in
    let whole : total f P' ≡ total f (remove P i ++ map (in_lane lane) new) = ap (total f) rolls.after in
    omega (arith, less, it, more, whole, sum_by-in_lane f lane new)

-- a work is part of the total
pub work-le-total : (f : Work → ℕ) {P P' : List Debt} {i lane : ℕ} {w : Work} {new : List Work} → Rolls P i lane w new P' → f w ≤ total f P
work-le-total f {P} {P'} {i} {lane} {w} rolls =
    let d : Debt = in_lane lane w in
    let g : Debt → ℕ = λ e. f e.work in
    let it : f (get_or P i d).work ≡ f w = ap g (rolls.first.is_work d) in
    omega (arith, get_or-le-sum_by g P i d rolls.first.inside, it)

-- the kinds that a roll leaves alone
pub total_same : (f : Work → ℕ) {P P' : List Debt} {i lane : ℕ} {w : Work} {new : List Work} → Rolls P i lane w new P'
    → f w ≡ sum_by f new → total f P' ≡ total f P
total_same f rolls same = omega (arith, total-rolls f rolls, same)

cases_zero : (n : ℕ) → (n ≡ 0) ⊎ (0 < n)
cases_zero n = ⊎_elim (λ l. inr l) (λ h. inl (omega (arith, h))) (cases_lt 0 n)

pub count-gone : (C : Committed) (P : List Debt) (b : ℕ) → C.is_free b ≡ false → 0 < total (freed b) P → count_of C P b ≡ 0
count-gone C P b unfree more = rw (unfree, lt-ltb 0 (total (freed b) P) more) refl

pub count-kept : (C : Committed) (P : List Debt) (b : ℕ) → C.is_free b ≡ false → total (freed b) P ≡ 0 → count_of C P b ≡ C.counted b
count-kept C P b unfree none = rw (unfree, none) refl

-- where the trees count one owner and a lowering is pending, nothing else is, and no owner is left
pub record IsLastLowering (C : Committed) (P : List Debt) (M : FileMaps) (Q : ℕ → Bool) (b : ℕ) : Type 0 where
  pub unfree : C.is_free b ≡ false
  pub unstaged : Q b ≡ false
  pub not_given : total (freed b) P ≡ 0
  pub not_raised : total (raised b) P ≡ 0
  pub lowered_once : total (lowered b) P ≡ 1
  pub unowned : owners M b ≡ 0

pub last_lowering : {C : Committed} {P : List Debt} {M : FileMaps} {Q : ℕ → Bool} (b : ℕ) → BlocksAgree C P M Q → CountsSettle C P M Q
    → IsDataOf C b → C.counted b ≡ 1 → 0 < total (lowered b) P → 0 < total (naming b) P → IsLastLowering C P M Q b
last_lowering {C} {P} {M} {Q} b agree counts is_data one low named =
    let unfree : C.is_free b ≡ false = elim (C.is_free b) as (λ t. C.is_free b ≡ t → t ≡ false) [
      | true ↦ λ e. absurd (omega (arith, named, agree.free_unnamed b e))
      | false ↦ λ _. refl
    ] refl in
    let apart : (C.is_staged b ≡ false) × (Q b ≡ false) = agree.counted_unstaged b (omega (arith, low)) in
    let no_staging : one_if (Q b) ≡ 0 = rw (apart.1) refl in
    let balance = counts b is_data in
    let owners : 2 * total (raised b) P ≤ owners M b = agree.two_owners b in
    ⊎_elim
    (λ none. let kept = count-kept C P b unfree none in
    record {
      unfree = unfree;
      unstaged = apart.1;
      not_given = none;
      not_raised = omega (arith, balance, kept, one, owners, low, no_staging);
      lowered_once = omega (arith, balance, kept, one, owners, low, no_staging);
      unowned = omega (arith, balance, kept, one, owners, low, no_staging);
    })
    (λ more. let gone = count-gone C P b unfree more in
    absurd (omega (arith, balance, gone, owners, low, no_staging)))
    (cases_zero (total (freed b) P))
