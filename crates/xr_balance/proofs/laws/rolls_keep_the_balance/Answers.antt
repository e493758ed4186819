use Rattle.xr_balance.proofs.KeptRolls.{roll_keeps_all}
use Rattle.xr_balance.proofs.LaneLemmas.{roll_holds}
use Rattle.xr_balance.proofs.laws.rolls_keep_the_balance.Goals as goal

pub returns : goal.returns
returns c = record { settled = roll_keeps_all; lanes = roll_holds }
