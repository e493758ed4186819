use Rattle.xr_balance.proofs.KindLemmas.{first_is_ready, least_is_first}
use Rattle.xr_balance.proofs.PairCounts.{few_pairs}
use Rattle.xr_balance.proofs.laws.first_works_are_ready.Goals as goal

pub returns : goal.returns
returns c = record { ready = first_is_ready; least = least_is_first; room = few_pairs }
