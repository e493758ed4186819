-- Of no public contract.
-- A tree whose root is another block, one level lower or one higher: its records are the same.
use Rattle.std.specs.Prelude.{◌≡◌, ℕ, ◌+◌, ◌<◌, ◌≤◌, None, true, [], ◌∷◌}
use Rattle.xr_kinds.specs.Form.{Form}
use Rattle.xr_block.specs.Frame.{ChangesOnly}
use Rattle.xr_pool.specs.Overlay.{Blocks, free_count, is_changed}
use Rattle.xr_block.specs.TreeBlock.{Place}
use Rattle.xr_block.specs.Tree.{IsTreeIn, records_of, tree_blocks, tree_records}
use Rattle.xr_change.specs.Alters.{AreRowsIn}
use Rattle.xr_change.specs.Paths.{HasSome, IsInTree, blocks_wanted, full_on_path, item_count, max_records, next_full}
use Rattle.xr_change.specs.Writes.{MarksAtMost}

-- the place of a block that is alone in its level
abbrev pub alone : ℕ → ℕ → Place
alone n level = record { number = n; level = level; left = None; right = None }

pub record ShrinksRoot {X : Type 0} (form : Form X) (before after : Blocks) (root level root' level' : ℕ) : Type 0 where
  pub tree : IsTreeIn form after root' level'
  pub records : tree_records form after root' level' ≡ tree_records form before root level
  pub frame : ChangesOnly before (tree_blocks form before root level) after (tree_blocks form after root' level')
  pub free : free_count before ≤ free_count after
  pub changed : after.changed ≡ before.changed

-- a node above a full root, which names it alone: a record that is to come into the tree has room there
pub record GrowsRoot {X : Type 0} (form : Form X) (before after : Blocks) (root level top level' : ℕ) (r : X) : Type 0 where
  pub rows : AreRowsIn form after 1 level' (top ∷ [])
  pub records : records_of form after level' (top ∷ []) ≡ tree_records form before root level
  pub frame : ChangesOnly before (tree_blocks form before root level) after (tree_blocks form after top level')
  pub here : IsInTree form after level' top
  pub some : HasSome form after level' top
  pub one : item_count form after level' top ≡ 1
  pub room : item_count form after level' top < max_records form level'
  pub next : next_full form after level' top r ≡ 1
  pub free : full_on_path form after level' top r + 1 ≡ blocks_wanted form before level root r
  pub count : free_count before ≡ free_count after + 1
  pub marks : MarksAtMost before after 1
  pub changed : is_changed after top ≡ true
