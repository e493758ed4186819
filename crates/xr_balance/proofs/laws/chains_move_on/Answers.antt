use Rattle.xr_balance.proofs.PendingLemmas.{chains_begin, chains_move_on, few_are_pending, head_is_first}
use Rattle.xr_balance.proofs.laws.chains_move_on.Goals as goal

pub returns : goal.returns
returns c = record { roll = chains_move_on; begin = chains_begin; head = head_is_first; few = few_are_pending }
