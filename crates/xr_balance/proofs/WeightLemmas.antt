-- A roll leaves works that weigh less than the one that it does.
use Rattle.std.proofs.Common.{◌≡◌, ◌<◌, List, arith, refl, ap, ◌∙◌, eqb, ⊎_elim, subst}
use Rattle.std.specs.Prelude.{sum_by}
use Rattle.std.proofs.lemmas.Bool.{cases_eq, ne_eqb}
use Rattle.xr_items.specs.declared.work.Work.{Work}
use Rattle.xr_items.specs.declared.work.Work.TheVariants.{Free, Own, Count, Map, Swap}
use Rattle.xr_items.specs.declared.work.CountKind.TheVariants.{Increase, Decrease, AllocCow, FreeCow}
use Rattle.xr_items.specs.Valid.{IsWork}
use Rattle.xr_balance.specs.RollGives.{RollGives, works_of_rest}
use Rattle.xr_balance.specs.Rolls.{in_lane, run_back, works_of_freed}
use Rattle.xr_balance.specs.Settled.{Committed}
use Rattle.xr_balance.specs.Weights.{WeightsFall, weight}
use Rattle.xr_balance.specs.Works.{Debt}
use Rattle.xr_balance.proofs.CountRolls.{rest-sum}
use Rattle.xr_balance.proofs.LastLowering.{sum-left}
use Rattle.xr_balance.proofs.PieceRows.{cond_most, few_new}
use Rattle.xr_balance.proofs.TotalLemmas.{total-rolls}

lighter : (C C' : Committed) (w : Work) (new : List Work) → IsWork w → RollGives C w C' new → sum_by weight new < weight w
lighter C C' (Map kind file off run) new good gives = omega (arith, ap (sum_by weight) gives.new_is)
lighter C C' (Own kind owner off run) new good gives = omega (arith, ap (sum_by weight) gives.new_is)
lighter C C' (Count AllocCow run) new good gives = omega (arith, ap (sum_by weight) gives.new_is)
lighter C C' (Count FreeCow run) new good gives = omega (arith, ap (sum_by weight) gives.new_is)
lighter C C' (Free run) new good gives = omega (arith, ap (sum_by weight) gives.new_is)
lighter C C' (Count Increase run) new good gives = omega (
  arith,
  ap (sum_by weight) gives.new_is,
  rest-sum weight Increase run gives.len,
  cond_most (eqb gives.len run.len) (weight (Count Increase (run_back run gives.len))),
  gives.part.some,
  gives.part.fits,
)
lighter C C' (Count Decrease run) new good gives = ⊎_elim
    (λ one. let is : new ≡ works_of_freed run gives.len = gives.new_is ∙ rw one refl in omega (
      arith,
      ap (sum_by weight) is,
      sum-left weight run gives.len,
      cond_most (eqb gives.len run.len) (weight (Count Decrease (run_back run gives.len))),
      gives.part.some,
      gives.part.fits,
    ))
    (λ more. let is : new ≡ works_of_rest Decrease run gives.len = gives.new_is ∙ rw (ne_eqb gives.count 1 more) refl in omega (
      arith,
      ap (sum_by weight) is,
      rest-sum weight Decrease run gives.len,
      cond_most (eqb gives.len run.len) (weight (Count Decrease (run_back run gives.len))),
      gives.part.some,
      gives.part.fits,
    ))
    (cases_eq gives.count 1)
lighter C C' (Swap file off other other_off len) new good gives = ⊎_elim
    (λ none. omega (arith, ap (sum_by weight) none.1, good.some))
    (λ takes. omega (arith, few_new weight takes (λ r. (refl, refl, refl, refl)) (λ s. (refl, refl, refl, refl)), takes.piece.some, takes.piece.fits))
    gives.piece.gives

pub weights_fall : WeightsFall
weights_fall C C' P P' i lane w new valid rolls gives =
    let good : IsWork w = subst (λ (d : Debt). IsWork d.work) (rolls.first.is_work (in_lane lane w)) (valid i (in_lane lane w) rolls.first.inside) in
    omega (arith, total-rolls weight rolls, lighter C C' w new good gives)
