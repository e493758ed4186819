use Rattle.xr_chain.proofs.ChangedLemmas as changed
use Rattle.xr_chain.proofs.laws.changes_are_logged.Goals as goal

pub returns-clause-files : goal.returns-clause-files
returns-clause-files c = changed.files_log_changes

pub returns-clause-groups : goal.returns-clause-groups
returns-clause-groups c = changed.groups_log_changes
