-- Of no public contract.
-- A change of what stands under one block of a tree, whatever stands beside the block in its row.
use Rattle.std.specs.Prelude.{◌≡◌, ℕ, zero, suc, ◌≤◌, true, false, List, [], ◌∷◌, ◌++◌}
use Rattle.xr_kinds.specs.Form.{Form}
use Rattle.xr_pool.specs.Overlay.{Blocks, block_at, is_changed, is_free, pool_size}
use Rattle.xr_block.specs.Rows.{AreRowsOf, Held, IsWholeLeaf, IsWholeNode, min_records}
use Rattle.xr_block.specs.Times.{times}
use Rattle.xr_block.specs.Tree.{IsUsed, blocks_of, site_of, tree_held}
use Rattle.xr_block.specs.TreeBlock.{Place, Site, entries_in, records_in}

-- the rows from one on down are those of a tree, no block stands twice in them, and none is free
pub record AreRowsIn {X : Type 0} (form : Form X) (b : Blocks) (least level : ℕ) (row : List ℕ) : Type 0 where
  pub rows : AreRowsOf form (site_of b) (block_at b) (tree_held form b) least level row
  pub once : (m : ℕ) → times m (blocks_of form b level row) ≤ 1
  pub owned : (m : ℕ) → 1 ≤ times m (blocks_of form b level row) → IsUsed (is_free b) (pool_size b) m

-- a block of a level is whole at a place, with what it holds
unfoldable pub IsWholeAt : {X : Type 0} → Form X → Site → Held X → ℕ → ℕ → Place → List ℕ → Type 0
IsWholeAt form site held zero least place bytes = IsWholeLeaf form site held least place bytes
IsWholeAt form site held (suc level) least place bytes = IsWholeNode form site held least place bytes

-- a block holds what it held
pub record HoldsSame {X : Type 0} (form : Form X) (before after : Blocks) (m : ℕ) : Type 0 where
  pub same_records : records_in form (block_at after m) ≡ records_in form (block_at before m)
  pub same_entries : entries_in form (block_at after m) ≡ entries_in form (block_at before m)

-- a block has the bytes that it had, and is marked as changed if it was
pub record IsUntouched (before after : Blocks) (m : ℕ) : Type 0 where
  pub bytes : block_at after m ≡ block_at before m
  pub mark : is_changed after m ≡ is_changed before m

-- whatever is written in blocks, whose they are and what was kept stay
pub record IsSamePool (before after : Blocks) : Type 0 where
  pub site : site_of after ≡ site_of before
  pub pool : pool_size after ≡ pool_size before
  pub kept : after.kept ≡ before.kept
  pub kept_free : after.kept_free ≡ before.kept_free

-- the tree under a block is another one. It has no fewer items than the floor says, if it had none fewer.
pub record Alters {X : Type 0} (form : Form X) (before after : Blocks) (floor level n : ℕ) : Type 0 where
  pub same : IsSamePool before after
  -- in each row that the block stands in
  pub rows : (least : ℕ) (pre post : List ℕ) → least ≤ floor → AreRowsIn form before least level (pre ++ n ∷ post)
      → AreRowsIn form after least level (pre ++ n ∷ post)
  -- what stands elsewhere holds what it held and belongs to it still: at most a link to a sibling is another one
  pub held : (m : ℕ) → is_free before m ≡ false → times m (blocks_of form before level (n ∷ [])) ≡ 0
      → HoldsSame form before after m × (is_free after m ≡ false) × (times m (blocks_of form after level (n ∷ [])) ≡ 0)
  -- and what stands in no row from here on down isn't touched
  pub untouched : (least : ℕ) (pre post : List ℕ) → least ≤ floor → AreRowsIn form before least level (pre ++ n ∷ post) → (m : ℕ)
      → is_free before m ≡ false → times m (blocks_of form before level (pre ++ n ∷ post)) ≡ 0 → IsUntouched before after m
  -- what the tree lost is free, and what it didn't take stays free
  pub freed : (m : ℕ) → 1 ≤ times m (blocks_of form before level (n ∷ [])) → times m (blocks_of form after level (n ∷ [])) ≡ 0 → is_free after m ≡ true
  pub spare : (m : ℕ) → is_free before m ≡ true → times m (blocks_of form after level (n ∷ [])) ≡ 0 → is_free after m ≡ true

-- some blocks of a row are taken for others, whatever stands beside them there
pub record Takes {X : Type 0} (form : Form X) (before after : Blocks) (level : ℕ) (old new : List ℕ) : Type 0 where
  pub same : IsSamePool before after
  pub rows : (pre post : List ℕ) → AreRowsIn form before (min_records form level) level (pre ++ (old ++ post)) → AreRowsIn form after (min_records form level) level (pre ++ (new ++ post))
  pub held : (m : ℕ) → is_free before m ≡ false → times m (blocks_of form before level old) ≡ 0
      → HoldsSame form before after m × (is_free after m ≡ false) × (times m (blocks_of form after level new) ≡ 0)
  pub untouched : (pre post : List ℕ) → AreRowsIn form before (min_records form level) level (pre ++ (old ++ post)) → (m : ℕ)
      → is_free before m ≡ false → times m (blocks_of form before level (pre ++ (old ++ post))) ≡ 0 → IsUntouched before after m
  pub freed : (m : ℕ) → 1 ≤ times m (blocks_of form before level old) → times m (blocks_of form after level new) ≡ 0 → is_free after m ≡ true
  pub spare : (m : ℕ) → is_free before m ≡ true → times m (blocks_of form after level new) ≡ 0 → is_free after m ≡ true
