-- The lanes' chains where one of them is rolled or begins, and how many works are pending.
use Rattle.std.specs.Prelude.{◌≡◌, ◌≢◌, ℕ, ◌≤◌, Bool, List, ◌∷◌, ◌++◌, length, map}
use Rattle.xr_items.specs.declared.work.Work.{Work}
use Rattle.xr_maps.specs.FileMaps.{FileMaps}
use Rattle.xr_balance.specs.Rolls.{IsFirstWork, Rolls, in_lane}
use Rattle.xr_balance.specs.Settled.{Committed, IsSettled, chain_of}
use Rattle.xr_balance.specs.Stagings.{BeginsChain}
use Rattle.xr_balance.specs.Works.{Debt}

-- the lane's chain loses its first work and gets the new ones at its end, and the others stay
pub record MovesOn (P : List Debt) (lane : ℕ) (w : Work) (new : List Work) (P' : List Debt) : Type 0 where
  pub rest : List Debt
  pub before : chain_of P lane ≡ in_lane lane w ∷ rest
  pub after : chain_of P' lane ≡ rest ++ map (in_lane lane) new
  pub others : (l : ℕ) → l ≢ lane → chain_of P' l ≡ chain_of P l

abbrev pub ChainsMoveOn : Type 0
ChainsMoveOn = (P P' : List Debt) (i lane : ℕ) (w : Work) (new : List Work) → Rolls P i lane w new P' → MovesOn P lane w new P'

-- a lane that begins has the new works alone, and the others stay
abbrev pub ChainsBegin : Type 0
ChainsBegin = (P P' : List Debt) (lane : ℕ) (new : List Work) → BeginsChain P lane new P'
    → (chain_of P' lane ≡ map (in_lane lane) new) × ((l : ℕ) → l ≢ lane → chain_of P' l ≡ chain_of P l)

-- the head of a lane's chain is its first work, at some place
abbrev pub HeadIsFirst : Type 0
HeadIsFirst = (P rest : List Debt) (lane : ℕ) (d : Debt) → chain_of P lane ≡ d ∷ rest
    → (d ≡ in_lane lane d.work) × ((i : ℕ) × IsFirstWork P i lane d.work)

-- eight chains of twelve works
abbrev pub FewArePending : Type 0
FewArePending = (C : Committed) (P : List Debt) (M : FileMaps) (Q : ℕ → Bool) → IsSettled C P M Q → length P ≤ 96
