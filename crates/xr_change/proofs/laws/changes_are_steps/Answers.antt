use Rattle.xr_change.specs.TreeStepLaws.{changes_are_steps, insertion_is_gain, removal_is_loss, replacement_is_swap}
use Rattle.xr_change.proofs.laws.changes_are_steps.Goals as goal

pub returns-clause-step : goal.returns-clause-step
returns-clause-step g c = changes_are_steps g.R.Record.form

pub returns-clause-gain : goal.returns-clause-gain
returns-clause-gain g c = insertion_is_gain g.R.Record.form

pub returns-clause-loss : goal.returns-clause-loss
returns-clause-loss g c = removal_is_loss g.R.Record.form g.met.R.Record.is_form

pub returns-clause-swap : goal.returns-clause-swap
returns-clause-swap g c = replacement_is_swap g.R.Record.form g.met.R.Record.is_form
