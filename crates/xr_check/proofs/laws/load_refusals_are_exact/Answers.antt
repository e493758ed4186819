use Rattle.xr_check.proofs.LoadLawLemmas.{clean_is_taken, dirty_is_alone, dirty_is_one, layer_is_one, log_refusal_is_one}
use Rattle.xr_check.proofs.laws.load_refusals_are_exact.Goals as goal

pub returns-clause-taken : goal.returns-clause-taken
returns-clause-taken c = clean_is_taken c.refused_are_no_groups.ensures c.refusals_are_exact.ensures.taken c.refusals_are_exact.ensures.one

pub returns-clause-dirty : goal.returns-clause-dirty
returns-clause-dirty c = dirty_is_one

pub returns-clause-alone : goal.returns-clause-alone
returns-clause-alone c = dirty_is_alone

pub returns-clause-layer : goal.returns-clause-layer
returns-clause-layer c = layer_is_one c.refused_are_no_groups.ensures c.refusals_are_exact.ensures.taken c.refusals_are_exact.ensures.one

pub returns-clause-log : goal.returns-clause-log
returns-clause-log c = log_refusal_is_one c.refused_are_no_groups.ensures c.refusals_are_exact.ensures.taken c.refusals_are_exact.ensures.one
