-- The works with which a step begins are those of the balance's first commits.
use Rattle.std.proofs.Common.{true, false, refl}
use Rattle.xr_chain.specs.FirstRowLaws.{FirstRowsAreGiven}
use Rattle.xr_chain.specs.FirstRows.{run_of_piece}
use Rattle.xr_bmap.specs.declared.piece.Piece.TheVariants.{Hole, Mapped}
use Rattle.xr_maps.specs.declared.steps.Step.TheVariants.{Exchange, Punch, Remap}

pub first_rows_are_given : FirstRowsAreGiven
first_rows_are_given held mine C M lane (Remap file off len at) old true found may =
    record { old = run_of_piece old; piece = found; row = refl; own = may }
first_rows_are_given held mine C M lane (Remap file off len at) old false found may =
    record { old = run_of_piece old; piece = found; row = refl; raises = may.raises; changes = may.changes }
first_rows_are_given held mine C M lane (Punch file off len) (Mapped at size) staged found may =
    record { old = record { start = at; len = size }; piece = found; row = refl }
first_rows_are_given held mine C M lane (Punch file off len) (Hole size) staged found may = absurd found
first_rows_are_given held mine C M lane (Exchange file off other other_off len) old staged found may = refl
