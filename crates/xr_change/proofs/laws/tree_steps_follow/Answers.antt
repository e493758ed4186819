use Rattle.xr_change.specs.TreeStepLaws.{tree_steps_follow}
use Rattle.xr_change.proofs.laws.tree_steps_follow.Goals as goal

pub returns : goal.returns
returns g c = tree_steps_follow g.R.Record.form
