use Rattle.xr_scan.proofs.ReplayLemmas.{logged_is_whole, unlogged_stays}
use Rattle.xr_scan.specs.CopyLaws.{replay_goes_on}
use Rattle.xr_scan.proofs.laws.replays_go_on.Goals as goal

pub returns-clause-on : goal.returns-clause-on
returns-clause-on c = replay_goes_on

pub returns-clause-stays : goal.returns-clause-stays
returns-clause-stays c = unlogged_stays

pub returns-clause-whole : goal.returns-clause-whole
returns-clause-whole c = logged_is_whole
