use Rattle.xr_balance.proofs.FirstLemmas.{first_keeps_all, first_holds_all}
use Rattle.xr_balance.proofs.laws.first_commits_keep_the_balance.Goals as goal

pub returns : goal.returns
returns c = record { settled = first_keeps_all; lanes = first_holds_all }
