use Rattle.xr_maps.specs.Extents.{AreHoles}
use Rattle.xr_maps.proofs.tables.next_extent.Given as goal

abbrev pub invariant-loop-off : goal.invariant-loop-off
invariant-loop-off l = AreHoles l.table l.from l.off
