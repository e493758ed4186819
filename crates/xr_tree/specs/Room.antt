-- The trees of a group and of a file with their pools, and the room that they leave there.
use Rattle.std.specs.Prelude.{◌≡◌, ℕ, ◌≤◌, ◌++◌, List}
use Rattle.xr_base.specs.declared.geometry.TheConstants.{FILE_BLOCKS, FIRST_DATA_BLOCK}
use Rattle.xr_block.specs.Trees.{IsTree, blocks_of_tree}
use Rattle.xr_block.specs.declared.root.Root.{Root}
use Rattle.xr_change.specs.Calls.{blocks_for}
use Rattle.xr_kinds.specs.FreeRuns.{block_form, size_form}
use Rattle.xr_kinds.specs.Mapping.{mapping_form}
use Rattle.xr_kinds.specs.Reference.{reference_form}
use Rattle.xr_kinds.specs.Reverse.{reverse_form}
use Rattle.xr_kinds.specs.declared.free_runs.ByBlock.{ByBlock}
use Rattle.xr_kinds.specs.declared.free_runs.BySize.{BySize}
use Rattle.xr_kinds.specs.declared.mapping.Mapping.{Mapping}
use Rattle.xr_kinds.specs.declared.reference.Reference.{Reference}
use Rattle.xr_kinds.specs.declared.reverse.Reverse.{Reverse}
use Rattle.xr_pool.specs.Overlay.{Blocks, free_count, pool_size}
use Rattle.xr_pool.specs.Room.{HoldAllUsed}

-- the roots of a group's trees
pub record GroupRoots : Type 0 where
  pub by_block : Root
  pub by_size : Root
  pub reverse : Root
  pub reference : Root

abbrev pub blocks_of_group_trees : Blocks → GroupRoots → List ℕ
blocks_of_group_trees b t =
    blocks_of_tree block_form b t.by_block ++ blocks_of_tree size_form b t.by_size ++ blocks_of_tree reverse_form b t.reverse
    ++ blocks_of_tree reference_form b t.reference

-- the trees of a group have all blocks of its pool that aren't free
pub record AreGroupTrees (b : Blocks) (t : GroupRoots) : Type 0 where
  pub by_block : IsTree block_form b t.by_block
  pub by_size : IsTree size_form b t.by_size
  pub reverse : IsTree reverse_form b t.reverse
  pub reference : IsTree reference_form b t.reference
  pub pool : pool_size b ≡ FIRST_DATA_BLOCK
  pub used : HoldAllUsed b (blocks_of_group_trees b t)

-- so many blocks at least are free, and no insertion takes more than there are
pub record HasGroupRoom (b : Blocks) (t : GroupRoots) : Type 0 where
  pub free : 73 ≤ free_count b
  pub by_block : (r : ByBlock) → blocks_for block_form b t.by_block r ≤ free_count b
  pub by_size : (r : BySize) → blocks_for size_form b t.by_size r ≤ free_count b
  pub reverse : (r : Reverse) → blocks_for reverse_form b t.reverse r ≤ free_count b
  pub reference : (r : Reference) → blocks_for reference_form b t.reference r ≤ free_count b

abbrev pub GroupsHaveRoom : Type 0
GroupsHaveRoom = (b : Blocks) (t : GroupRoots) → AreGroupTrees b t → HasGroupRoom b t

-- the same of a file and its tree
pub record IsFileTree (b : Blocks) (t : Root) : Type 0 where
  pub mapping : IsTree mapping_form b t
  pub pool : pool_size b ≡ FILE_BLOCKS
  pub used : HoldAllUsed b (blocks_of_tree mapping_form b t)

pub record HasFileRoom (b : Blocks) (t : Root) : Type 0 where
  pub free : 2 ≤ free_count b
  pub mapping : (r : Mapping) → blocks_for mapping_form b t r ≤ free_count b

abbrev pub FilesHaveRoom : Type 0
FilesHaveRoom = (b : Blocks) (t : Root) → IsFileTree b t → HasFileRoom b t
