use Rattle.xr_tree.specs.SmallTreeLaws.{reference_trees}
use Rattle.xr_tree.proofs.bounds.reference_tree_is_small.Goals as goal

pub returns : goal.returns
returns c = reference_trees
