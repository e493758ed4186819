use Rattle.std.proofs.Common.{◌≡◌, ℕ}
use Rattle.xr_maps.specs.Steps.{punched_slot}
use Rattle.xr_maps.specs.Tables.{slot_of}
use Rattle.xr_maps.proofs.tables.punch.Given as goal

-- so far the first i of the offsets are holes
abbrev pub invariant-loop-i : goal.invariant-loop-i
invariant-loop-i l = (o : ℕ) → slot_of l.table o ≡ punched_slot l.off l.i o (slot_of l.fn.table o)
