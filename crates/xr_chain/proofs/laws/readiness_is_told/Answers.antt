use Rattle.xr_chain.proofs.ReadinessLemmas as ready
use Rattle.xr_chain.proofs.laws.readiness_is_told.Goals as goal

pub returns-clause-files : goal.returns-clause-files
returns-clause-files c = ready.files_tell_readiness

pub returns-clause-groups : goal.returns-clause-groups
returns-clause-groups c = ready.groups_tell_readiness
