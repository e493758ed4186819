use Rattle.std.proofs.Common.{◌≡◌, length}
use Rattle.xr_change.specs.Draft.{AreEdited, all_sealed}
use Rattle.xr_change.proofs.draft.seal_all.Given as goal

abbrev pub invariant-loop-n : goal.invariant-loop-n
invariant-loop-n g l =
    (AreEdited l.over l.edited.items)
    × (all_sealed g.R.Record.form l.edited.items l.over ≡ all_sealed g.R.Record.form l.initial.edited.items l.initial.over)

abbrev pub decreases-loop-n : goal.decreases-loop-n
decreases-loop-n g l = length l.edited.items
