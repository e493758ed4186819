use Rattle.xr_open.specs.LeafTreeLaws.{fresh_roots_are_leaves, leaf_roots_are_trees}
use Rattle.xr_kinds.specs.Mapping.{mapping_form}
use Rattle.xr_kinds.specs.MappingLaws.{is_mapping_form}
use Rattle.xr_open.proofs.laws.leaves_are_trees.Goals as goal

pub returns : goal.returns
returns c = record { trees = leaf_roots_are_trees mapping_form is_mapping_form; fresh = fresh_roots_are_leaves }
