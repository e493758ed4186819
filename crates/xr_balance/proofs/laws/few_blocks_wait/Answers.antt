use Rattle.xr_balance.proofs.GivenBackLemmas.{first_gives_back, roll_gives_no_more_back}
use Rattle.xr_balance.proofs.WaitingLemmas.{few_blocks_wait}
use Rattle.xr_balance.proofs.laws.few_blocks_wait.Goals as goal

pub returns : goal.returns
returns c = record { waiting = few_blocks_wait; roll = roll_gives_no_more_back; first = first_gives_back }
