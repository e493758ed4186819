-- A root that is a leaf, as a fresh image has it, is a tree.
use Rattle.std.specs.Prelude.{◌≡◌, ℕ, ◌+◌, ◌≤◌, None, List, [], ◌∷◌, length}
use Rattle.xr_base.specs.declared.geometry.TheConstants.{UUID_BYTES}
use Rattle.xr_block.specs.Tree.{AreRecords, IsUsed, site_of}
use Rattle.xr_block.specs.TreeBlock.{Place, leaf_bytes}
use Rattle.xr_block.specs.Trees.{IsTree, blocks_of_tree, records_of_tree}
use Rattle.xr_block.specs.declared.root.Root.{Root}
use Rattle.xr_headers.specs.FreshImage.{long_leaf}
use Rattle.xr_kinds.specs.Form.{Form}
use Rattle.xr_kinds.specs.Mapping.{mapping_form}
use Rattle.xr_pool.specs.Overlay.{Blocks, block_at, is_free, pool_size}

abbrev pub lone_place : ℕ → Place
lone_place n = record { number = n; level = 0; left = None; right = None }

abbrev pub leaf_root : ℕ → Root
leaf_root n = record { block = n; level = 0 }

-- a block of the pool is a leaf of some records, which keep the rules of a tree
pub record IsLeafRoot {X : Type 0} (form : Form X) (b : Blocks) (n : ℕ) (records : List X) : Type 0 where
  pub used : IsUsed (is_free b) (pool_size b) n
  pub identified : length b.uuid ≡ UUID_BYTES
  pub bytes : block_at b n ≡ leaf_bytes form (site_of b) (lone_place n) records
  pub rules : AreRecords form records
  pub fits : length records ≤ form.leaf_max

-- the tree has these records, and this block alone
pub record IsLeafTree {X : Type 0} (form : Form X) (b : Blocks) (n : ℕ) (records : List X) : Type 0 where
  pub tree : IsTree form b (leaf_root n)
  pub records_are : records_of_tree form b (leaf_root n) ≡ records
  pub blocks_are : blocks_of_tree form b (leaf_root n) ≡ n ∷ []

abbrev pub LeafRootsAreTrees : {X : Type 0} → Form X → Type 0
LeafRootsAreTrees {X} form = (b : Blocks) (n : ℕ) (records : List X) → IsLeafRoot form b n records → IsLeafTree form b n records

-- the empty root of a fresh file's tree is such a leaf
abbrev pub FreshRootsAreLeaves : Type 0
FreshRootsAreLeaves = (b : Blocks) (n : ℕ) → length b.uuid ≡ UUID_BYTES
    → long_leaf b.uuid (b.first + n) b.owner ≡ leaf_bytes mapping_form (site_of b) (lone_place n) []
