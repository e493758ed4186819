use Rattle.xr_balance.proofs.LaneLemmas.{idle_may_change_files, nothing_is_held, idle_is_apart, idle_is_staged, owned_is_unstaged}
use Rattle.xr_balance.proofs.StepLaneLemmas.{two_owners}
use Rattle.xr_balance.proofs.laws.idle_lanes_are_apart.Goals as goal

pub returns : goal.returns
returns c = record { apart = idle_is_apart; staged = idle_is_staged; owned = owned_is_unstaged; two = two_owners; changes = idle_may_change_files; none = nothing_is_held }
