-- The blocks of a run lie in its group, so a block of another group is none of them.
use Rattle.std.proofs.Common.{◌≡◌, ◌≢◌, ℕ, ◌+◌, ◌-◌, ◌/◌, ◌<◌, ◌≤◌, true, false, ⊎_elim, sym, ◌∙◌, ap, arith}
use Rattle.std.proofs.lemmas.Bool.{cases_Bool}
use Rattle.std.proofs.lemmas.Bool.Decides.{nat_tests}
use Rattle.xr_base.specs.Address.{IsGoodRun, group_number}
use Rattle.xr_base.specs.declared.address.Run.{Run}
use Rattle.xr_base.specs.declared.geometry.TheConstants.{GROUP_BLOCKS}
use Rattle.xr_maps.specs.Holdings.{in_run, one_if}
use Rattle.xr_maps.specs.Steps.{is_within}

pub bounds : (off len o : ℕ) → is_within off len o ≡ true → (off ≤ o) × (o < off + len)
bounds off len o within = (grind (arith, nat_tests), grind (arith, nat_tests))

module _ (run : Run) (good : IsGoodRun run) (n : ℕ) (here : group_number run.start ≡ n) (b : ℕ) where
  pub in_group : is_within run.start.0 run.len b ≡ true → b / GROUP_BLOCKS ≡ n
  in_group within =
      let inside = bounds run.start.0 run.len b within in
      let same : run.start.0 + (b - run.start.0) ≡ b = omega (arith, inside.0) in
      ap (λ k. k / GROUP_BLOCKS) (sym same) ∙ good.one_group (b - run.start.0) (omega (arith, inside.0, inside.1)) ∙ here

  module _ (away : b / GROUP_BLOCKS ≢ n) where
    pub out_of_run : is_within run.start.0 run.len b ≡ false
    out_of_run = ⊎_elim (λ (yes : is_within run.start.0 run.len b ≡ true). absurd (away (in_group yes))) (λ no. no) (cases_Bool (is_within run.start.0 run.len b))

    pub none_in_run : in_run b run ≡ 0
    none_in_run = ap one_if out_of_run
