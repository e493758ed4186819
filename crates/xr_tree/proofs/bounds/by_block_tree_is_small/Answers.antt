use Rattle.xr_tree.specs.SmallTreeLaws.{by_block_trees}
use Rattle.xr_tree.proofs.bounds.by_block_tree_is_small.Goals as goal

pub returns : goal.returns
returns c = by_block_trees
