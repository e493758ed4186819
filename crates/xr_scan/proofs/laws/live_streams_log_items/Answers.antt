use Rattle.xr_scan.specs.LoggedItemLaws.{live_logs_items, logged_are_good, one_logging}
use Rattle.xr_scan.proofs.NumberedLemmas.{next_is_above}
use Rattle.xr_scan.proofs.PendingOrderLemmas.{pending_rise}
use Rattle.xr_scan.proofs.laws.live_streams_log_items.Goals as goal

pub returns-clause-some : goal.returns-clause-some
returns-clause-some c = live_logs_items

pub returns-clause-one : goal.returns-clause-one
returns-clause-one c = one_logging

pub returns-clause-good : goal.returns-clause-good
returns-clause-good c = logged_are_good

pub returns-clause-rise : goal.returns-clause-rise
returns-clause-rise c = pending_rise

pub returns-clause-next : goal.returns-clause-next
returns-clause-next c = next_is_above
