use Rattle.xr_balance.proofs.FreshLemmas.{fresh_is_settled}
use Rattle.xr_balance.proofs.laws.fresh_image_is_settled.Goals as goal

pub returns : goal.returns
returns c = fresh_is_settled
