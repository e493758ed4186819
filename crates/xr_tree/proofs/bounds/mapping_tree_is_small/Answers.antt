use Rattle.xr_tree.specs.SmallTreeLaws.{mapping_trees}
use Rattle.xr_tree.proofs.bounds.mapping_tree_is_small.Goals as goal

pub returns : goal.returns
returns c = mapping_trees
