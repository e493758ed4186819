use Rattle.xr_scan.proofs.RefusalLemmas.{live_is_taken, one_refusal}
use Rattle.xr_scan.proofs.ScanRefusalLemmas.{one_scan_refusal}
use Rattle.xr_scan.proofs.laws.refusals_are_exact.Goals as goal

pub returns-clause-taken : goal.returns-clause-taken
returns-clause-taken c = live_is_taken

pub returns-clause-one : goal.returns-clause-one
returns-clause-one c = one_refusal

pub returns-clause-scan : goal.returns-clause-scan
returns-clause-scan c = one_scan_refusal
