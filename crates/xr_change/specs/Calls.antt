-- What a change of a whole tree leaves: a tree with other records, and of the overlay all that wasn't its own or free.
use Rattle.std.specs.Prelude.{◌≡◌, ℕ, ◌+◌, ◌*◌, ◌≤◌, List, length}
use Rattle.xr_block.specs.Frame.{ChangesOnly}
use Rattle.xr_block.specs.Trees.{IsTree, blocks_of_tree, records_of_tree}
use Rattle.xr_block.specs.declared.root.Root.{Root}
use Rattle.xr_change.specs.Paths.{blocks_wanted}
use Rattle.xr_kinds.specs.Form.{Form}
use Rattle.xr_pool.specs.Overlay.{Blocks, changed_blocks}

-- at most three blocks a level and one more become changed ones
abbrev pub most_changed : Root → ℕ
most_changed t = 3 * (t.level + 1) + 1

-- the blocks of the pool that an insertion takes at most
abbrev pub blocks_for : {X : Type 0} → Form X → Blocks → Root → X → ℕ
blocks_for form b t r = blocks_wanted form b t.level t.block r

-- the tree below a root is another one with the records that the change makes of those before
pub record ChangesTree {X : Type 0} (form : Form X) (a : Blocks) (old : Root) (b : Blocks) (new : Root) (change : List X → List X) : Type 0 where
  pub tree : IsTree form b new
  pub set : records_of_tree form b new ≡ change (records_of_tree form a old)
  pub frame : ChangesOnly a (blocks_of_tree form a old) b (blocks_of_tree form b new)
  pub changed : length (changed_blocks b) ≤ length (changed_blocks a) + most_changed old
