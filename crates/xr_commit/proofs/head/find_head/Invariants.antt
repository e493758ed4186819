use Rattle.xr_commit.proofs.HeadLemmas.{IsBest}
use Rattle.xr_commit.proofs.head.find_head.Given as goal

abbrev pub invariant-loop-sector : goal.invariant-loop-sector
invariant-loop-sector l = IsBest l.uuid l.log l.sector l.best
