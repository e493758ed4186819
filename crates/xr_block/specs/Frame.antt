-- What a change of one tree leaves of an overlay: which blocks it may write, take and give back.
use Rattle.std.specs.Prelude.{◌≡◌, ◌⊎◌, ℕ, true, false, List}
use Rattle.std.specs.List.{Contains}
use Rattle.xr_pool.specs.Overlay.{Blocks, block_at, is_changed, is_free, pool_size}
use Rattle.xr_kinds.specs.Form.{Form}
use Rattle.xr_block.specs.Tree.{IsTreeIn, site_of, tree_blocks, tree_records}

-- the tree's blocks were `old`, and are `new`
pub record ChangesOnly (before : Blocks) (old : List ℕ) (after : Blocks) (new : List ℕ) : Type 0 where
  pub site : site_of after ≡ site_of before
  pub pool : pool_size after ≡ pool_size before
  pub kept : after.kept ≡ before.kept
  pub kept_free : after.kept_free ≡ before.kept_free
  -- other blocks that aren't free stay as they are
  pub others : (n : ℕ) → is_free before n ≡ false → ¬ (Contains old n)
      → (block_at after n ≡ block_at before n) × (is_free after n ≡ false) × ¬ (Contains new n)
  -- the free map loses what the tree gained, and gains what it lost
  pub taken : (n : ℕ) → Contains new n → is_free after n ≡ false
  pub freed : (n : ℕ) → Contains old n → ¬ (Contains new n) → is_free after n ≡ true
  pub spare : (n : ℕ) → is_free before n ≡ true → ¬ (Contains new n) → is_free after n ≡ true
  -- what is marked as changed now was marked already, or it was the tree's own, or free
  pub marked : (n : ℕ) → is_changed after n ≡ true → (is_changed before n ≡ true) ⊎ Contains old n ⊎ (is_free before n ≡ true)

-- what stays of a tree
pub record Stays {X : Type 0} (form : Form X) (before after : Blocks) (root level : ℕ) (new : List ℕ) : Type 0 where
  pub tree : IsTreeIn form after root level
  pub same_records : tree_records form after root level ≡ tree_records form before root level
  pub same_blocks : tree_blocks form after root level ≡ tree_blocks form before root level
  -- it shares no block with the tree that was changed
  pub own : (n : ℕ) → Contains (tree_blocks form after root level) n → ¬ (Contains new n)

-- other trees stay, and changes follow each other
abbrev pub OthersStay : {X : Type 0} → Form X → Type 0
OthersStay form =
    (before after : Blocks) (root level : ℕ) (old new : List ℕ) → IsTreeIn form before root level → ChangesOnly before old after new
    → ((n : ℕ) → Contains (tree_blocks form before root level) n → ¬ (Contains old n)) → Stays form before after root level new

abbrev pub FollowEachOther : Type 0
FollowEachOther = (a b c : Blocks) (u v w : List ℕ) → ChangesOnly a u b v → ChangesOnly b v c w → ChangesOnly a u c w
