-- A part of a good run is one.
use Rattle.std.proofs.Common.{◌≡◌, ℕ, ◌+◌, ◌<◌, ◌≤◌, sym, ◌∙◌, ap, subst, arith}
use Rattle.xr_balance.specs.Rolls.{run_back, run_front}
use Rattle.xr_base.specs.Address.{IsData, IsGoodRun, address_after, address_of, group_number}
use Rattle.xr_base.specs.declared.address.Run.{Run}

module _ (run : Run) (good : IsGoodRun run) (n : ℕ) where
  pub front_good : 0 < n → n ≤ run.len → IsGoodRun (run_front run n)
  front_good some within = record {
    some = some;
    data_blocks = λ i inside. good.data_blocks i (omega (arith, inside, within));
    one_group = λ i inside. good.one_group i (omega (arith, inside, within));
  }

  module _ (within : n < run.len) where
    pub back_group : group_number (address_after run.start n) ≡ group_number run.start
    back_group = good.one_group n within

    pub back_good : IsGoodRun (run_back run n)
    back_good = record {
      some = omega (arith, within);
      data_blocks = λ i inside.
          let same : run.start.0 + (n + i) ≡ run.start.0 + n + i = omega arith in
          subst (λ (k : ℕ). IsData (address_of k)) same (good.data_blocks (n + i) (omega (arith, inside, within)));
      one_group = λ i inside.
          let same : run.start.0 + (n + i) ≡ run.start.0 + n + i = omega arith in
          ap (λ k. group_number (address_of k)) (sym same) ∙ good.one_group (n + i) (omega (arith, inside, within)) ∙ sym back_group;
    }
