-- With which works a step begins, where its range of a file was looked up.
use Rattle.std.specs.Prelude.{◌≡◌, ℕ, Bool, true, false, List, [], Option, Some, None}
use Rattle.xr_balance.specs.Rows.{works_of_exchange, works_of_fresh, works_of_punch, works_of_share}
use Rattle.xr_base.specs.Address.{IsGoodRun}
use Rattle.xr_base.specs.declared.address.Run.{Run}
use Rattle.xr_bmap.specs.declared.piece.Piece.{Piece}
use Rattle.xr_bmap.specs.declared.piece.Piece.TheVariants.{Hole, Mapped}
use Rattle.xr_items.specs.declared.work.Work.{Work}
use Rattle.xr_maps.specs.declared.steps.Step.{Step}
use Rattle.xr_maps.specs.declared.steps.Step.TheVariants.{Exchange, Punch, Remap}

-- the run of a piece; a hole has none
abbrev pub run_of_piece : Piece → Option Run
run_of_piece (Mapped at len) = Some (record { start = at; len = len })
run_of_piece (Hole len) = None

-- a piece of so many offsets, whose blocks are those of a group
abbrev pub IsWholePiece : ℕ → Piece → Type 0
IsWholePiece size (Mapped at len) = (len ≡ size) × IsGoodRun (record { start = at; len = len })
IsWholePiece size (Hole len) = len ≡ size

-- the piece is what a step takes the place of; an exchange is told none
abbrev pub IsTakenBy : Step → Piece → Type 0
IsTakenBy (Remap file off len at) old = IsWholePiece len old
IsTakenBy (Punch file off len) (Mapped at size) = IsWholePiece len (Mapped at size)
IsTakenBy (Punch file off len) _ = ⊥
IsTakenBy (Exchange file off other other_off len) old = Unit {0}

-- the works of a step, which found a run or a hole; whether its run is staged counts for a remap alone
abbrev pub works_of_step : Step → Option Run → Bool → List Work
works_of_step (Remap file off len at) old true = works_of_fresh file off old (record { start = at; len = len })
works_of_step (Remap file off len at) old false = works_of_share file off old (record { start = at; len = len })
works_of_step (Punch file off len) (Some old) staged = works_of_punch file off old
works_of_step (Punch file off len) _ staged = []
works_of_step (Exchange file off other other_off len) old staged = works_of_exchange file off other other_off len
