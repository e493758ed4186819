-- A place in a list that a test parts, looked for by halves.
use Rattle.std.proofs.Common.{◌≡◌, ◌≢◌, ℕ, ◌+◌, ◌<◌, ◌≤◌, Bool, true, false, List, length, get_or, sym, ap, ◌∙◌, arith, ⊎_elim}
use Rattle.std.proofs.lemmas.Bool.{cases_eq, false_from_ne_true}
use Rattle.xr_block.specs.Bounds.{IsBetween, IsParted}

-- at first the place may be anywhere
pub anywhere : {X : Type 0} (test : X → Bool) (xs : List X) (count : ℕ) → count ≡ length xs → IsBetween test xs 0 count
anywhere test xs count all = record {
  ordered = omega arith;
  within = omega arith;
  below = λ k d above under. absurd (omega arith);
  from = λ k d above inside. absurd (omega arith);
}

module _ {X : Type 0} (test : X → Bool) (xs : List X) (parted : IsParted test xs) (low high middle : ℕ) (from : low ≤ middle) (below : middle < high) (here : IsBetween test xs low high) where
  -- the item in the middle passes
  pub upper_half : ((d : X) → true ≡ test (get_or xs middle d)) → IsBetween test xs (middle + 1) high
  upper_half passes = record {
    ordered = omega arith;
    within = here.within;
    below = λ k d above under. ⊎_elim
        (λ (at : k ≡ middle). ap (λ (i : ℕ). test (get_or xs i d)) at ∙ sym (passes d))
        (λ (other : k ≢ middle). parted k middle d (omega arith) (omega (arith, here.within)) (sym (passes d)))
        (cases_eq k middle);
    from = here.from;
  }

  -- it doesn't
  pub lower_half : ((d : X) → false ≡ test (get_or xs middle d)) → IsBetween test xs low middle
  lower_half fails = record {
    ordered = from;
    within = omega (arith, here.within);
    below = here.below;
    from = λ k d above inside. ⊎_elim
        (λ (at : k ≡ middle). ap (λ (i : ℕ). test (get_or xs i d)) at ∙ sym (fails d))
        (λ (other : k ≢ middle). false_from_ne_true (test (get_or xs k d)) (λ passes. cc (fails d, parted middle k d (omega arith) inside passes)))
        (cases_eq k middle);
  }
