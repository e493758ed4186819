use Rattle.xr_scan.proofs.FreshStateLemmas.{fresh_holds, fresh_is_live}
use Rattle.xr_scan.proofs.laws.fresh_images_hold_their_blocks.Goals as goal

pub returns-clause-live : goal.returns-clause-live
returns-clause-live c = fresh_is_live

pub returns-clause-holds : goal.returns-clause-holds
returns-clause-holds c = fresh_holds
