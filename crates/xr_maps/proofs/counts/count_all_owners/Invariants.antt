use Rattle.xr_maps.proofs.CountLemmas.{AreCountsSoFar}
use Rattle.xr_maps.proofs.counts.count_all_owners.Given as goal

abbrev pub invariant-loop-table : goal.invariant-loop-table
invariant-loop-table l = AreCountsSoFar l.tables l.first l.table-index l.counts
