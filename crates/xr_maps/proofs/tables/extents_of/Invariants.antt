use Rattle.std.proofs.Common.{length, ◌-◌, ◌≤◌}
use Rattle.xr_maps.specs.Tables.{slot_of}
use Rattle.xr_maps.proofs.ExtentLemmas.{AreExtentsBelow}
use Rattle.xr_maps.proofs.tables.extents_of.Given as goal

abbrev pub invariant-loop-extent : goal.invariant-loop-extent
invariant-loop-extent l = (l.place ≤ length l.table) × AreExtentsBelow (slot_of l.table) l.place l.extents.items

abbrev pub decreases-loop-extent : goal.decreases-loop-extent
decreases-loop-extent l = length l.table - l.place
