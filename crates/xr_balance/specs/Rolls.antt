-- How the list of pending works changes when a lane does the first work of its chain.
use Rattle.std.specs.Prelude.{◌≡◌, ◌≢◌, ℕ, ◌-◌, ◌<◌, ◌==◌, if◌then◌else◌, List, [], ◌∷◌, ◌++◌, length, map, remove, slice_index_or}
use Rattle.xr_base.specs.declared.address.Run.{Run}
use Rattle.xr_base.specs.Address.{address_after}
use Rattle.xr_items.specs.declared.work.Work.{Work}
use Rattle.xr_items.specs.declared.work.Work.TheVariants.{Free, Count}
use Rattle.xr_items.specs.declared.work.CountKind.TheVariants.{Decrease}
use Rattle.xr_balance.specs.Works.{Debt}

abbrev pub in_lane : ℕ → Work → Debt
in_lane lane work = record { lane = lane; work = work }

-- the work stands at place i, and is its lane's first
pub record IsFirstWork (P : List Debt) (i lane : ℕ) (work : Work) : Type 0 where
  pub inside : i < length P
  pub is_work : (d : Debt) → slice_index_or P i d ≡ in_lane lane work
  pub none_before : (k : ℕ) (d : Debt) → k < i → (slice_index_or P k d).lane ≢ lane

-- the lane's first work, which stands at place i, is gone and its new works stand at the end
pub record Rolls (P : List Debt) (i lane : ℕ) (work : Work) (new : List Work) (P' : List Debt) : Type 0 where
  pub first : IsFirstWork P i lane work
  pub after : P' ≡ remove P i ++ map (in_lane lane) new

-- the first n blocks of a run, and the others
abbrev pub run_front : Run → ℕ → Run
run_front run n = record { start = run.start; len = n }

abbrev pub run_back : Run → ℕ → Run
run_back run n = record { start = address_after run.start n; len = run.len - n }

-- what is left to do where the last owner of the run's first n blocks is gone
abbrev pub works_of_freed : Run → ℕ → List Work
works_of_freed run n = Free (run_front run n) ∷ (if n == run.len then [] else Count Decrease (run_back run n) ∷ [])
