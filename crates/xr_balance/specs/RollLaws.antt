-- What each roll keeps.
use Rattle.std.specs.Prelude.{ℕ, Bool, List}
use Rattle.xr_items.specs.declared.work.Work.{Work}
use Rattle.xr_maps.specs.FileMaps.{FileMaps}
use Rattle.xr_balance.specs.Lanes.{LanesHold}
use Rattle.xr_balance.specs.RollGives.{RollGives}
use Rattle.xr_balance.specs.Rolls.{Rolls}
use Rattle.xr_balance.specs.Settled.{Committed, IsSettled}
use Rattle.xr_balance.specs.Works.{Debt}

-- a roll keeps the balance and the maps that it stands for
abbrev pub RollKeeps : Type 0
RollKeeps = (C C' : Committed) (P P' : List Debt) (M : FileMaps) (Q : ℕ → Bool) (i lane : ℕ) (w : Work) (new : List Work)
    → IsSettled C P M Q → Rolls P i lane w new P' → RollGives C w C' new → IsSettled C' P' M Q

-- a roll leaves what lanes hold
abbrev pub RollHolds : Type 0
RollHolds = (held mine : ℕ → ℕ → Bool) (C C' : Committed) (P P' : List Debt) (M : FileMaps) (Q : ℕ → Bool) (i lane : ℕ) (w : Work) (new : List Work)
    → LanesHold held mine P M Q → Rolls P i lane w new P' → RollGives C w C' new → LanesHold held mine P' M Q
