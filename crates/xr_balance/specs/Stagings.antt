-- A run of free blocks is staged for a lane, and at a mount one that was left staged is released.
use Rattle.std.specs.Prelude.{ℕ, ◌≡◌, ◌+◌, ◌<◌, ◌||◌, ◌&&◌, Bool, not, IsTrue, List, [], map, ◌≢◌, ◌++◌}
use Rattle.xr_base.specs.Address.{IsGoodRun, group_number}
use Rattle.xr_base.specs.declared.address.Run.{Run}
use Rattle.xr_items.specs.declared.work.Work.{Work}
use Rattle.xr_maps.specs.FileMaps.{FileMaps}
use Rattle.xr_maps.specs.Steps.{is_within}
use Rattle.xr_maps.specs.Holdings.{in_run, one_if}
use Rattle.xr_balance.specs.Lanes.{LanesHold}
use Rattle.xr_balance.specs.RollGives.{KeepsCommitted}
use Rattle.xr_balance.specs.Rolls.{in_lane}
use Rattle.xr_balance.specs.Rows.{works_of_release, works_of_staging}
use Rattle.xr_balance.specs.Settled.{Committed, IsSettled, chain_of}
use Rattle.xr_balance.specs.Works.{Debt, IsLane}

-- a lane without an open chain begins one
pub record BeginsChain (P : List Debt) (lane : ℕ) (new : List Work) (P' : List Debt) : Type 0 where
  pub idle : chain_of P lane ≡ []
  pub seat : IsLane lane
  pub after : P' ≡ P ++ map (in_lane lane) new

-- a run of free blocks is staged
pub record Stages (C : Committed) (P : List Debt) (Q : ℕ → Bool) (lane : ℕ) (run : Run) (C' : Committed) (P' : List Debt)
    (Q' : ℕ → Bool) : Type 0 where
  pub begins : BeginsChain P lane (works_of_staging run) P'
  pub good : IsGoodRun run
  pub group : group_number run.start < C.groups
  pub keeps : KeepsCommitted C C'
  pub counted : (b : ℕ) → C'.counted b ≡ C.counted b
  pub free : (b : ℕ) → one_if (C'.is_free b) + in_run b run ≡ one_if (C.is_free b)
  pub staged : (b : ℕ) → Q' b ≡ (Q b || is_within run.start.0 run.len b)

-- where nothing is pending, a run that the trees have staged is released
pub record Releases (C : Committed) (Q : ℕ → Bool) (lane : ℕ) (run : Run) (P' : List Debt) (Q' : ℕ → Bool) : Type 0 where
  pub begins : BeginsChain [] lane (works_of_release run) P'
  pub good : IsGoodRun run
  pub there : (b : ℕ) → in_run b run ≡ 1 → IsTrue (C.is_staged b)
  pub staged : (b : ℕ) → Q' b ≡ (Q b && not (is_within run.start.0 run.len b))

-- a staging and a release keep it, and leave the maps
abbrev pub StageKeeps : Type 0
StageKeeps = (C C' : Committed) (P P' : List Debt) (M : FileMaps) (Q Q' : ℕ → Bool) (lane : ℕ) (run : Run)
    → IsSettled C P M Q → Stages C P Q lane run C' P' Q' → IsSettled C' P' M Q'

abbrev pub ReleaseKeeps : Type 0
ReleaseKeeps = (C : Committed) (P' : List Debt) (M : FileMaps) (Q Q' : ℕ → Bool) (lane : ℕ) (run : Run)
    → IsSettled C [] M Q → Releases C Q lane run P' Q' → IsSettled C P' M Q'

-- a staging for an idle lane leaves what lanes hold, and the run is the lane's
abbrev pub StageHolds : Type 0
StageHolds = (held mine mine' : ℕ → ℕ → Bool) (C C' : Committed) (P P' : List Debt) (M : FileMaps) (Q Q' : ℕ → Bool) (lane : ℕ) (run : Run)
    → IsSettled C P M Q → LanesHold held mine P M Q → Stages C P Q lane run C' P' Q'
    → ((l b : ℕ) → l ≢ lane → mine' l b ≡ mine l b) → ((b : ℕ) → mine' lane b ≡ (mine lane b || is_within run.start.0 run.len b))
    → LanesHold held mine' P' M Q'
