use Rattle.xr_balance.proofs.FreshLemmas.{free_is_nobodys}
use Rattle.xr_balance.proofs.LaneLemmas.{maps_are_determined}
use Rattle.xr_balance.proofs.WholeFirsts.{unnamed_files_agree}
use Rattle.xr_balance.proofs.laws.maps_are_determined.Goals as goal

pub returns : goal.returns
returns c = record { maps = maps_are_determined; files = unnamed_files_agree; free = free_is_nobodys }
