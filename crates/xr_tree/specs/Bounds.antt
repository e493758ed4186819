-- How large trees of one kind get, by the rules on their records.
use Rattle.std.specs.Prelude.{ℕ, ◌≤◌, length}
use Rattle.xr_block.specs.Trees.{IsTree, blocks_of_tree}
use Rattle.xr_block.specs.declared.root.Root.{Root}
use Rattle.xr_change.specs.Calls.{blocks_for}
use Rattle.xr_kinds.specs.Form.{Form}
use Rattle.xr_pool.specs.Overlay.{Blocks}

-- a tree has at most so many blocks and so many levels below its root, and an insertion takes at most so many blocks more
pub record IsSmallTree {X : Type 0} (form : Form X) (blocks levels taken : ℕ) (b : Blocks) (t : Root) : Type 0 where
  pub few_blocks : length (blocks_of_tree form b t) ≤ blocks
  pub few_levels : t.level ≤ levels
  pub few_taken : (r : X) → blocks_for form b t r ≤ taken

-- each tree of one kind is such
abbrev pub AreSmallTrees : {X : Type 0} → Form X → ℕ → ℕ → ℕ → Type 0
AreSmallTrees form blocks levels taken = (b : Blocks) (t : Root) → IsTree form b t → IsSmallTree form blocks levels taken b t
