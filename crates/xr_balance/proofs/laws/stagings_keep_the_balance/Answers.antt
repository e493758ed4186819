use Rattle.xr_balance.proofs.StagingEvents.{stage_keeps, release_keeps}
use Rattle.xr_balance.proofs.StepLaneLemmas.{stage_holds}
use Rattle.xr_balance.proofs.laws.stagings_keep_the_balance.Goals as goal

pub returns : goal.returns
returns c = record { stage = stage_keeps; release = release_keeps; lanes = stage_holds }
