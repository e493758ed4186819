use Rattle.xr_block.specs.SharedPoolLaws.{changes_block_zero, stays_beside_zero}
use Rattle.xr_block.proofs.laws.block_zero_is_of_no_tree.Goals as goal

pub returns-clause-frame : goal.returns-clause-frame
returns-clause-frame g c = changes_block_zero

pub returns-clause-trees : goal.returns-clause-trees
returns-clause-trees g c = stays_beside_zero g.R.Record.form
