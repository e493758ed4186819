-- That the works with which a step begins are those of the balance's first commits.
use Rattle.std.specs.Prelude.{◌≡◌, ◌≢◌, ℕ, ◌+◌, ◌<◌, ◌≤◌, Bool, true, false, IsTrue, Some}
use Rattle.xr_balance.specs.FirstGives.{GivesRow}
use Rattle.xr_balance.specs.Lanes.{owners_in}
use Rattle.xr_balance.specs.Pieces.{IsHoleOrRun}
use Rattle.xr_balance.specs.Settled.{Committed}
use Rattle.xr_base.specs.Address.{address_after}
use Rattle.xr_base.specs.declared.address.Run.{Run}
use Rattle.xr_chain.specs.FirstRows.{run_of_piece, works_of_step}
use Rattle.xr_bmap.specs.declared.piece.Piece.{Piece}
use Rattle.xr_bmap.specs.declared.piece.Piece.TheVariants.{Mapped}
use Rattle.xr_maps.specs.FileMaps.{FileMaps, address_at}
use Rattle.xr_maps.specs.Holdings.{in_run}
use Rattle.xr_maps.specs.Steps.{applied}
use Rattle.xr_maps.specs.declared.steps.Step.{Step}
use Rattle.xr_maps.specs.declared.steps.Step.TheVariants.{Exchange, Punch, Remap}

-- the maps have the piece where the step puts something else, or leaves a hole; a hole isn't punched
abbrev pub IsFoundFor : Committed → Step → Piece → Type 0
IsFoundFor C (Remap file off len at) old = IsHoleOrRun C.maps file off len (run_of_piece old)
IsFoundFor C (Punch file off len) (Mapped at size) = IsHoleOrRun C.maps file off len (Some (record { start = at; len = size }))
IsFoundFor C (Punch file off len) _ = ⊥
IsFoundFor C (Exchange file off other other_off len) old = Unit {0}

-- what is asked of a remap: that its run is staged for the lane, or else that it changes each offset and that each of its blocks
-- has two owners in the lane's files after it
pub record IsShared (held : ℕ → ℕ → Bool) (C : Committed) (M : FileMaps) (lane : ℕ) (step : Step) (file off : ℕ) (run : Run) : Type 0 where
  pub raises : (b : ℕ) → in_run b run ≡ 1 → 2 ≤ owners_in (held lane) (applied step M) b
  pub changes : (k : ℕ) → k < run.len → address_at C.maps file (off + k) ≢ Some (address_after run.start k)

abbrev pub MayGive : (ℕ → ℕ → Bool) → (ℕ → ℕ → Bool) → Committed → FileMaps → ℕ → Step → Bool → Type 0
MayGive held mine C M lane (Remap file off len at) true = (b : ℕ) → in_run b (record { start = at; len = len }) ≡ 1 → IsTrue (mine lane b)
MayGive held mine C M lane (Remap file off len at) false = IsShared held C M lane (Remap file off len at) file.0 off (record { start = at; len = len })
MayGive held mine C M lane _ staged = Unit {0}

abbrev pub FirstRowsAreGiven : Type 0
FirstRowsAreGiven = (held mine : ℕ → ℕ → Bool) (C : Committed) (M : FileMaps) (lane : ℕ) (step : Step) (old : Piece) (staged : Bool)
    → IsFoundFor C step old → MayGive held mine C M lane step staged → GivesRow held mine C M lane step staged (works_of_step step (run_of_piece old) staged)
