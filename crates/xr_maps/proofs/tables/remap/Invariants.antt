use Rattle.std.proofs.Common.{◌≡◌, ℕ}
use Rattle.xr_maps.specs.Steps.{remapped_slot}
use Rattle.xr_maps.specs.Tables.{slot_of}
use Rattle.xr_maps.proofs.tables.remap.Given as goal

-- so far the first i of the blocks stand at their offsets
abbrev pub invariant-loop-i : goal.invariant-loop-i
invariant-loop-i l = (o : ℕ) → slot_of l.table o ≡ remapped_slot l.off l.i l.at o (slot_of l.fn.table o)
