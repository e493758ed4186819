use Rattle.xr_scan.proofs.StateLemmas.{one_state, same_is_held}
use Rattle.xr_scan.proofs.laws.images_hold_one_state.Goals as goal

pub returns-clause-one : goal.returns-clause-one
returns-clause-one c = one_state

pub returns-clause-same : goal.returns-clause-same
returns-clause-same c = same_is_held
