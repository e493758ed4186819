-- Of no public contract.
-- The records below a block, changed by an insertion, a removal or a replacement, and the path down to the child in which it goes on.
use Rattle.std.specs.Prelude.{◌≡◌, ℕ, suc, ◌+◌, ◌*◌, ◌<◌, ◌≤◌, true, List, [], ◌∷◌, ◌++◌, length, take, drop}
use Rattle.std.specs.List.{Contains}
use Rattle.xr_kinds.specs.Form.{Form}
use Rattle.xr_pool.specs.Overlay.{Blocks, block_at, changed_blocks, free_count, is_changed, pool_size}
use Rattle.xr_block.specs.Rows.{min_records, named_below}
use Rattle.xr_block.specs.Tree.{records_of, tree_held}
use Rattle.xr_block.specs.TreeBlock.{count_in, entries_in}
use Rattle.xr_change.specs.Alters.{Alters, AreRowsIn}
use Rattle.xr_change.specs.Regroups.{IsSameUnder}
use Rattle.xr_change.specs.Sets.{inserted, removed, replaced}
use Rattle.xr_change.specs.Paths.{IsInTree, child_of, full_on_path, item_count, max_records, next_full}
use Rattle.xr_change.specs.Writes.{MarksAtMost, unchanged}

-- the tree under a block is another one with the records that the change makes of those before. The block may have lost so many items.
pub record Changes {X : Type 0} (form : Form X) (a b : Blocks) (lost level n : ℕ) (change : List X → List X) : Type 0 where
  pub alters : (floor : ℕ) → floor + lost ≤ item_count form a level n → Alters form a b floor level n
  pub set : records_of form b level (n ∷ []) ≡ change (records_of form a level (n ∷ []))
  pub marks : MarksAtMost a b (unchanged a n + 3 * level)

pub record Inserts {X : Type 0} (form : Form X) (a b : Blocks) (level n : ℕ) (r : X) : Type 0 where
  pub changes : Changes form a b 0 level n (inserted form.order r)
  pub grown : item_count form a level n + next_full form a level n r ≤ item_count form b level n
  pub free : free_count a ≤ free_count b + full_on_path form a level n r

pub record Removes {X : Type 0} (form : Form X) (a b : Blocks) (level n : ℕ) (r : X) : Type 0 where
  pub changes : Changes form a b 1 level n (removed form.order r)
  pub free : free_count a ≤ free_count b

pub record Replaces {X : Type 0} (form : Form X) (a b : Blocks) (level n : ℕ) (old new : X) : Type 0 where
  pub changes : Changes form a b 0 level n (replaced form.order old new)
  pub free : b.free ≡ a.free

-- the k-th child of a node may lose so many items, where its node may have been rearranged for that, and the change is one of the records under it alone
pub record HasPath {X : Type 0} (form : Form X) (a s : Blocks) (lost level n k : ℕ) (change : List X → List X) : Type 0 where
  pub same : (floor : ℕ) → floor + lost ≤ item_count form a (suc level) n → IsSameUnder form a s floor (suc level) n
  pub here : IsInTree form s (suc level) n
  pub within : k < length (entries_in form (block_at s n))
  pub least : min_records form level + lost ≤ item_count form s level (child_of form s n k)
  pub there : (let cs = named_below (tree_held form s) n in change (records_of form a (suc level) (n ∷ []))
      ≡ records_of form s level (take k cs) ++ (change (records_of form s level (child_of form s n k ∷ [])) ++ records_of form s level (drop (suc k) cs)))
  pub stay : (m : ℕ) → is_changed a m ≡ true → is_changed s m ≡ true
  pub few : length (changed_blocks s) + unchanged s (child_of form s n k) + unchanged s n ≤ length (changed_blocks a) + unchanged a n + 3

-- the path of an insertion: the child isn't full, and the pool has a block for each full one below
pub record HasPathWithRoom {X : Type 0} (form : Form X) (a s : Blocks) (level n : ℕ) (r : X) (k : ℕ) : Type 0 where
  pub path : HasPath form a s 0 level n k (inserted form.order r)
  pub grown : item_count form a (suc level) n + next_full form a (suc level) n r ≤ item_count form s (suc level) n
  pub room : item_count form s level (child_of form s n k) < max_records form level
  pub taken : free_count a + full_on_path form s level (child_of form s n k) r ≤ free_count s + full_on_path form a (suc level) n r

-- the path of a removal: the child has the record, and an item more than it needs
pub record HasPathWithSurplus {X : Type 0} (form : Form X) (a s : Blocks) (level n : ℕ) (r : X) (k : ℕ) : Type 0 where
  pub path : HasPath form a s 1 level n k (removed form.order r)
  pub held : Contains (records_of form s level (child_of form s n k ∷ [])) r
  pub free : free_count a ≤ free_count s

-- a node whose k-th child, c, has its key mended
pub record MayUpdateKey {X : Type 0} (form : Form X) (b : Blocks) (level n k c : ℕ) : Type 0 where
  pub here : n < pool_size b
  pub pre : List ℕ
  pub post : List ℕ
  pub rows : AreRowsIn form b (min_records form level) level (pre ++ c ∷ post)
  pub within : k < count_in (block_at b n)
  pub few : count_in (block_at b n) ≤ form.node_max
