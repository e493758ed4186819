use Rattle.xr_commit.proofs.RegionHomeLemmas.{IsSeeking}
use Rattle.xr_commit.proofs.homes.block_of_region.Given as goal

abbrev pub invariant-loop-head : goal.invariant-loop-head
invariant-loop-head l = IsSeeking l.log l.heads l.fn.region l.head-index l.left l.started
