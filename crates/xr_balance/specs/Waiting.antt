-- The blocks of a group that no file has and that aren't free yet: each waits for a lane.
use Rattle.std.specs.Prelude.{ℕ, ◌≡◌, ◌≢◌, ◌+◌, ◌*◌, ◌<◌, ◌≤◌, ◌==◌, ◌&&◌, Bool, not, List}
use Rattle.xr_base.specs.declared.geometry.TheConstants.{GROUPS, GROUP_BLOCKS, FIRST_DATA_BLOCK, DATA_BLOCKS}
use Rattle.xr_items.specs.declared.work.Work.{Work}
use Rattle.xr_maps.specs.FileMaps.{FileMaps}
use Rattle.xr_maps.specs.declared.steps.Step.{Step}
use Rattle.xr_maps.specs.declared.steps.Step.TheVariants.{Remap, Punch, Exchange}
use Rattle.xr_maps.specs.Holdings.{one_if, owners, sum_below}
use Rattle.xr_balance.specs.FirstGives.{FirstGives}
use Rattle.xr_balance.specs.Lanes.{LanesHold, lane_total}
use Rattle.xr_balance.specs.RollGives.{RollGives}
use Rattle.xr_balance.specs.Rolls.{Rolls}
use Rattle.xr_balance.specs.Settled.{Committed, IsSettled}
use Rattle.xr_balance.specs.Works.{Debt, freed, lowered, sum_of_lanes}

-- the sum of f over the data blocks of a group
abbrev pub sum_of_group : ℕ → (ℕ → ℕ) → ℕ
sum_of_group group f = sum_below DATA_BLOCKS (λ k. f (group * GROUP_BLOCKS + (FIRST_DATA_BLOCK + k)))

-- 1 where the block has no owner and isn't free
abbrev pub waiting : Committed → FileMaps → ℕ → ℕ
waiting C M b = one_if (owners M b == 0 && not (C.is_free b))

-- how often the lane's lowerings and gifts name the block
abbrev pub giving_back : ℕ → ℕ → List Debt → ℕ
giving_back b lane P = lane_total (lowered b) lane P + lane_total (freed b) lane P

-- of how many offsets a step is
abbrev pub step_length : Step → ℕ
step_length (Remap file off len at) = len
step_length (Punch file off len) = len
step_length (Exchange file off other other_off len) = len

-- a group's waiting blocks number at most the sum over lanes of what each has staged and what its lowerings and gifts name
abbrev pub FewBlocksWait : Type 0
FewBlocksWait = (held mine : ℕ → ℕ → Bool) (C : Committed) (P : List Debt) (M : FileMaps) (Q : ℕ → Bool) (group : ℕ)
    → IsSettled C P M Q → LanesHold held mine P M Q → group < C.groups → group < GROUPS
    → sum_of_group group (waiting C M)
    ≤ sum_of_lanes (λ l. sum_of_group group (λ b. one_if (mine l b) + giving_back b l P))

-- a roll makes no lane give back more
abbrev pub RollGivesNoMoreBack : Type 0
RollGivesNoMoreBack = (C C' : Committed) (P P' : List Debt) (i lane : ℕ) (w : Work) (new : List Work) → Rolls P i lane w new P' → RollGives C w C' new
    → (l b : ℕ) → giving_back b l P' ≤ giving_back b l P

-- and a first commit makes its own lane give back at most as many blocks as the step is long, and no other lane more
abbrev pub FirstGivesBack : Type 0
FirstGivesBack = (held mine mine' : ℕ → ℕ → Bool) (C : Committed) (P P' : List Debt) (M : FileMaps) (Q Q' : ℕ → Bool)
    (lane group : ℕ) (step : Step) (staged : Bool) → FirstGives held mine C P M Q lane step staged P' mine' Q'
    → (sum_of_group group (λ b. giving_back b lane P') ≤ step_length step) × ((l b : ℕ) → l ≢ lane → giving_back b l P' ≡ giving_back b l P)
