-- Pairs of a run that are still missing after those of another came, and those that came.
use Rattle.std.proofs.Common.{◌≡◌, ◌⊎◌, ℕ, ◌+◌, ◌<◌, ◌≤◌, true, false, refl, ◌∙◌, ⊎_elim, arith}
use Rattle.std.proofs.lemmas.Bool.Decides.{nat_tests}
use Rattle.xr_base.specs.declared.address.Run.{Run}
use Rattle.xr_group.specs.Group.{GroupState}
use Rattle.xr_group.specs.Sets.{AddsPairs, HasNoPairOf, HasPairsOf, has_pair, is_run_pair}

abbrev pub run_from : ℕ → ℕ → Run
run_from start len = record { start = record { 0 = start }; len = len }

module _ (run : Run) (owner off : ℕ) (old new : GroupState) (added : AddsPairs run owner off old new) where
  pub still_none : (more : Run) (w off' : ℕ) → HasNoPairOf old more w off'
      → ((v o a : ℕ) → is_run_pair more w off' v o a ≡ true → is_run_pair run owner off v o a ≡ false) → HasNoPairOf new more w off'
  still_none more w off' none apart v o a is =
      let before = none v o a is in let out = apart v o a is in added v o a ∙ rw (before, out) refl

  pub now_has : (part : Run) (w off' : ℕ)
      → ((v o a : ℕ) → is_run_pair part w off' v o a ≡ true → (has_pair old v o a ≡ true) ⊎ (is_run_pair run owner off v o a ≡ true))
      → HasPairsOf new part w off'
  now_has part w off' either v o a is = ⊎_elim
      (λ (was : has_pair old v o a ≡ true). added v o a ∙ rw was refl)
      (λ (new : is_run_pair run owner off v o a ≡ true). let all = added v o a in grind (arith, nat_tests, all, new))
      (either v o a is)

-- one block comes to an owner who had none from there on
module _ (owner off i : ℕ) (old new : GroupState) (added : AddsPairs (run_from (512 + i) 1) owner off old new) where
  pub later_none : ((o a : ℕ) → 512 + i ≤ a → has_pair old owner o a ≡ false) → (o a : ℕ) → 512 + (i + 1) ≤ a → has_pair new owner o a ≡ false
  later_none none o a later =
      let before = none o a (omega (arith, later)) in
      let out : is_run_pair (run_from (512 + i) 1) owner off owner o a ≡ false = grind (arith, nat_tests, later) in
      added owner o a ∙ rw (before, out) refl

  pub others_same : (w o a : ℕ) → owner < w → has_pair new w o a ≡ has_pair old w o a
  others_same w o a above =
      let out : is_run_pair (run_from (512 + i) 1) owner off w o a ≡ false = grind (arith, nat_tests, above) in
      let all = added w o a in
      grind (arith, nat_tests, all, out)

pub at_block : (owner off i w o a : ℕ) → is_run_pair (run_from (512 + i) 1) owner off w o a ≡ true → (owner ≡ w) × (512 + i ≤ a)
at_block owner off i w o a is = (grind (arith, nat_tests), grind (arith, nat_tests))
