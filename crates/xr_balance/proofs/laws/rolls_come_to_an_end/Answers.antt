use Rattle.xr_balance.proofs.WeightLemmas.{weights_fall}
use Rattle.xr_balance.proofs.laws.rolls_come_to_an_end.Goals as goal

pub returns : goal.returns
returns c = weights_fall
