-- What a list tells at each place after one of its members took the place of another.
use Rattle.std.proofs.Common.{◌≡◌, ◌≢◌, ℕ, ◌<◌, ◌≤◌, List, Some, length, slice_get, slice_set, sym, ◌∙◌, ap, ⊎_elim, arith}
use Rattle.std.proofs.lemmas.Bool.{cases_eq, cases_lt}
use Rattle.std.proofs.lemmas.List.{get_or-set_same, get_or-set_other, length-set}
use Rattle.std.proofs.lemmas.Option.{slice_get-get_or, slice_get_past, slice_get_within}
use Rattle.xr_chain.specs.CommittedBlocks.{told_by}

module _ {X : Type 0} (xs : List X) (i : ℕ) (old new : X) (there : slice_get xs i ≡ Some old) where
  within : i < length xs
  within = slice_get_within xs i old there

  pub set_here : slice_get (slice_set xs i new) i ≡ Some new
  set_here = slice_get-get_or (slice_set xs i new) i new (omega (arith, within, length-set xs i new)) ∙ ap Some (get_or-set_same xs i new new within)

  pub set_elsewhere : (j : ℕ) → j ≢ i → slice_get (slice_set xs i new) j ≡ slice_get xs j
  set_elsewhere j other = ⊎_elim
      (λ (inside : j < length xs).
      slice_get-get_or (slice_set xs i new) j old (omega (arith, inside, length-set xs i new))
      ∙ ap Some (get_or-set_other xs i j new old other) ∙ sym (slice_get-get_or xs j old inside))
      (λ (past : length xs ≤ j).
      slice_get_past (slice_set xs i new) j (omega (arith, past, length-set xs i new)) ∙ sym (slice_get_past xs j past))
      (cases_lt j (length xs))

  -- what a relation says of the old member and the new one it says at each place, where it holds of anything and itself elsewhere
  pub told_along : {A B : Type 0} (R : A → B → Type 0) (none : A) (none' : B) (tells : X → A) (tells' : X → B) (j : ℕ)
      → (j ≡ i → R (tells old) (tells' new)) → (j ≢ i → R (told_by none tells (slice_get xs j)) (told_by none' tells' (slice_get xs j)))
      → R (told_by none tells (slice_get xs j)) (told_by none' tells' (slice_get (slice_set xs i new) j))
  told_along R none none' tells tells' j here elsewhere = ⊎_elim
      (λ (same : j ≡ i).
      let before : slice_get xs j ≡ Some old = ap (slice_get xs) same ∙ there in
      let after : slice_get (slice_set xs i new) j ≡ Some new = ap (slice_get (slice_set xs i new)) same ∙ set_here in
      rw (before, after) (here same))
      (λ (other : j ≢ i). rw (set_elsewhere j other) (elsewhere other))
      (cases_eq j i)
