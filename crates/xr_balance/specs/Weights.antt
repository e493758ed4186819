-- How many rolls a work may still take, itself and what it leaves: this falls at each roll.
use Rattle.std.specs.Prelude.{ℕ, ◌*◌, ◌<◌, List, All}
use Rattle.xr_items.specs.declared.work.Work.{Work}
use Rattle.xr_items.specs.declared.work.Work.TheVariants.{Count, Swap}
use Rattle.xr_items.specs.declared.work.CountKind.TheVariants.{Increase, Decrease}
use Rattle.xr_items.specs.Valid.{IsWork}
use Rattle.xr_balance.specs.RollGives.{RollGives}
use Rattle.xr_balance.specs.Rolls.{Rolls}
use Rattle.xr_balance.specs.Settled.{Committed}
use Rattle.xr_balance.specs.Works.{Debt, total}

-- an exchange of n offsets leaves up to eight works and one of fewer offsets; a lowering of n blocks may give each by itself
abbrev pub weight : Work → ℕ
weight (Swap file off other other_off len) = 9 * len
weight (Count Decrease run) = 2 * run.len
weight (Count Increase run) = run.len
weight _ = 1

abbrev pub WeightsFall : Type 0
WeightsFall = (C C' : Committed) (P P' : List Debt) (i lane : ℕ) (w : Work) (new : List Work) → All (λ d. IsWork d.work) P
    → Rolls P i lane w new P' → RollGives C w C' new → total weight P' < total weight P
