use Rattle.xr_scan.specs.ScannedLaws.{scanned_holds}
use Rattle.xr_scan.proofs.ScannedLemmas.{scanned_has_few, too_many_are_held}
use Rattle.xr_scan.proofs.laws.scans_tell_states.Goals as goal

pub returns-clause-holds : goal.returns-clause-holds
returns-clause-holds c = scanned_holds

pub returns-clause-few : goal.returns-clause-few
returns-clause-few c = scanned_has_few

pub returns-clause-many : goal.returns-clause-many
returns-clause-many c = too_many_are_held
