use Rattle.xr_chain.proofs.CountedLemmas.{IsRest}
use Rattle.xr_chain.proofs.counted.all_counted.Given as goal

abbrev pub invariant-parts : goal.invariant-parts
invariant-parts l = IsRest l.group l.run l.staged l.limit l.rest

abbrev pub decreases-parts : goal.decreases-parts
decreases-parts l = l.rest.len
