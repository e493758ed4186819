use Rattle.std.proofs.Common.{◌-◌, length}
use Rattle.xr_maps.specs.Counts.{IsWanted}
use Rattle.xr_maps.proofs.CountedRunLemmas.{HasRunsBelow}
use Rattle.xr_maps.proofs.counts.runs_of_counts.Given as goal

abbrev pub invariant-loop-place : goal.invariant-loop-place
invariant-loop-place g l = HasRunsBelow g.T.FromCounted.from_counted l.first l.counts (IsWanted l.wanted) l.place l.records.items

abbrev pub decreases-loop-place : goal.decreases-loop-place
decreases-loop-place g l = length l.counts - l.place
