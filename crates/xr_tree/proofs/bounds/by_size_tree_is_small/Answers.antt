use Rattle.xr_tree.specs.SmallTreeLaws.{by_size_trees}
use Rattle.xr_tree.proofs.bounds.by_size_tree_is_small.Goals as goal

pub returns : goal.returns
returns c = by_size_trees
