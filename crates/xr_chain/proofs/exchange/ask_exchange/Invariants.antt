use Rattle.xr_chain.proofs.ExchangeLemmas.{IsRestOf}
use Rattle.xr_chain.proofs.exchange.ask_exchange.Given as goal

abbrev pub invariant-fronts : goal.invariant-fronts
invariant-fronts l = IsRestOf l.one l.two l.ranges l.rest l.trans

abbrev pub decreases-fronts : goal.decreases-fronts
decreases-fronts l = l.rest.len
