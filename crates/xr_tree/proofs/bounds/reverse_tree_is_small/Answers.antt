use Rattle.xr_tree.specs.SmallTreeLaws.{reverse_trees}
use Rattle.xr_tree.proofs.bounds.reverse_tree_is_small.Goals as goal

pub returns : goal.returns
returns c = reverse_trees
