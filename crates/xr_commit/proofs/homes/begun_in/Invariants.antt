use Rattle.std.proofs.Common.{◌-◌, length}
use Rattle.xr_commit.proofs.RegionHomeLemmas.{IsCounting}
use Rattle.xr_commit.proofs.homes.begun_in.Given as goal

abbrev pub invariant-loop-at : goal.invariant-loop-at
invariant-loop-at l = IsCounting l.body l.started l.at l.begun.regions l.begun.started

abbrev pub decreases-loop-at : goal.decreases-loop-at
decreases-loop-at l = length l.body - l.at
