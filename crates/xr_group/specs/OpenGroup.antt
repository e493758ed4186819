-- How a group is opened, and why some blocks are none: the first rule that is broken, of the header, of each tree in turn, or that
-- each block of no tree is free.
use Rattle.std.specs.Prelude.{◌≡◌, ◌≢◌, ◌⊎◌, ⊤, ℕ, List, [], ◌++◌, slice_index_or}
use Rattle.std.specs.List.{Contains}
use Rattle.xr_base.specs.declared.geometry.TheConstants.{FIRST_DATA_BLOCK}
use Rattle.xr_block.specs.Trees.{IsTree, blocks_of_tree}
use Rattle.xr_block.specs.declared.fault.TreeFault.{TreeFault}
use Rattle.xr_block.specs.declared.root.Root.{Root}
use Rattle.xr_group.specs.Group.{GroupState, HasGroupHead, IsGroup, first_of_group, group_pool, head_of_blocks, trees_of_blocks}
use Rattle.xr_group.specs.declared.trees.Trees.{Trees}
use Rattle.xr_headers.specs.FirstWrong.{NamesGroupField}
use Rattle.xr_headers.specs.declared.codec.HeaderFault.{HeaderFault}
use Rattle.xr_headers.specs.declared.layout.TheConstants.{FREE_MAP_PLACE}
use Rattle.xr_kinds.specs.Form.{Form}
use Rattle.xr_kinds.specs.FreeRuns.{block_form, size_form}
use Rattle.xr_kinds.specs.Reference.{reference_form}
use Rattle.xr_kinds.specs.Reverse.{reverse_form}
use Rattle.xr_open.specs.Marked.{AreMarkedBlocks}
use Rattle.xr_open.specs.declared.fault.OpenFault.{OpenFault}
use Rattle.xr_open.specs.declared.fault.OpenFault.TheVariants.{Header, NoMemory, Tree}
use Rattle.xr_pool.specs.Overlay.{Blocks, blocks_in}
use Rattle.xr_pool.specs.Room.{HoldAllUsed}
use Rattle.xr_refcount.specs.Refcount.{reference_blocks}
use Rattle.xr_space.specs.Space.{IsSpace, block_blocks, space_blocks}
use Rattle.xr_verify.specs.Refusals.{RefusesTree}

abbrev pub opened_group : ℕ → List ℕ → List ℕ → GroupState
opened_group number uuid bytes = record {
  number = number;
  uuid = uuid;
  kept = blocks_in FIRST_DATA_BLOCK bytes;
  blocks = blocks_in FIRST_DATA_BLOCK bytes;
  changed = [];
}

-- a tree that shares no block with those before it, and why there is none
abbrev pub IsNextTree : {X : Type 0} → Form X → Blocks → List ℕ → Root → Type 0
IsNextTree form b before t = IsTree form b t × ((n : ℕ) → Contains before n → ¬ (Contains (blocks_of_tree form b t) n))

abbrev pub RefusesNext : {X : Type 0} → Form X → Blocks → List ℕ → Root → TreeFault → Type 0
RefusesNext form b before t fault =
    ¬ (IsNextTree form b before t) × ((seen : List ℕ) × AreMarkedBlocks before seen × RefusesTree form b t seen fault)

-- the blocks of the first three trees, and of all
abbrev pub blocks_of_three : Blocks → Trees → List ℕ
blocks_of_three b t = space_blocks b t.space ++ blocks_of_tree reverse_form b t.rmap.tree

abbrev pub blocks_of_trees : Blocks → Trees → List ℕ
blocks_of_trees b t = blocks_of_three b t ++ reference_blocks b t.counts

-- four trees that share no block
pub record AreApartTrees (b : Blocks) (t : Trees) : Type 0 where
  pub space : IsSpace b t.space
  pub rmap : IsNextTree reverse_form b (space_blocks b t.space) t.rmap.tree
  pub counts : IsNextTree reference_form b (blocks_of_three b t) t.counts.tree

-- one of the trees is refused after those before it were right
abbrev pub RefusesTrees : Blocks → Trees → TreeFault → Type 0
RefusesTrees b t fault =
    RefusesNext block_form b [] t.space.by_block fault
    ⊎ (IsTree block_form b t.space.by_block × RefusesNext size_form b (block_blocks b t.space) t.space.by_size fault)
    ⊎ (IsSpace b t.space × RefusesNext reverse_form b (space_blocks b t.space) t.rmap.tree fault)
    ⊎ (IsSpace b t.space × IsNextTree reverse_form b (space_blocks b t.space) t.rmap.tree
    × RefusesNext reference_form b (blocks_of_three b t) t.counts.tree fault)

-- the trees are right, but a block of none of them isn't free
abbrev pub RefusesFreeMap : Blocks → Trees → HeaderFault → Type 0
RefusesFreeMap b t fault = AreApartTrees b t × ¬ (HoldAllUsed b (blocks_of_trees b t)) × (fault.field ≡ FREE_MAP_PLACE)

abbrev pub RefusesGroup : ℕ → List ℕ → List (List ℕ) → OpenFault → Type 0
RefusesGroup number uuid blocks NoMemory = ⊤
RefusesGroup number uuid blocks (Tree fault) =
    HasGroupHead number uuid blocks × RefusesTrees (group_pool number uuid blocks) (trees_of_blocks number uuid blocks) fault
RefusesGroup number uuid blocks (Header fault) =
    (fault.block ≡ first_of_group number)
    × ((¬ (HasGroupHead number uuid blocks) × NamesGroupField (slice_index_or blocks 0 []) (head_of_blocks number uuid blocks) fault.field)
    ⊎ (HasGroupHead number uuid blocks × RefusesFreeMap (group_pool number uuid blocks) (trees_of_blocks number uuid blocks) fault))

-- what is refused for its blocks is no group
abbrev pub RefusedAreNoGroups : Type 0
RefusedAreNoGroups =
    (number : ℕ) (uuid : List ℕ) (blocks : List (List ℕ)) (fault : OpenFault) → fault ≢ NoMemory → RefusesGroup number uuid blocks fault
    → ¬ (IsGroup number uuid blocks)
