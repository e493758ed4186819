use Rattle.xr_block.specs.FrameLaws.{stays_tree}
use Rattle.xr_block.proofs.laws.other_trees_stay.Goals as goal

pub returns : goal.returns
returns g c = stays_tree g.R.Record.form
