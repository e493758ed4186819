-- What a tree is, and what it holds: a function of the bytes of an overlay's blocks.
use Rattle.std.specs.Prelude.{◌≡◌, ◌≢◌, ℕ, zero, suc, ◌<◌, ◌≤◌, Bool, true, false, List, [], ◌∷◌, length}
use Rattle.std.specs.List.{All, AllPairs, concat, flat_map}
use Rattle.std.specs.declared.cmp.Ordering.TheVariants.{Less}
use Rattle.xr_kinds.specs.Form.{Form}
use Rattle.xr_pool.specs.Overlay.{Blocks, block_at, is_free, pool_size}
use Rattle.xr_block.specs.Rows.{AreRowsOf, Held, held_in, leaves_from, rows_from}
use Rattle.xr_block.specs.TreeBlock.{Site}

-- the rules on the records of a tree, which are told of every pair, siblings or not
pub record AreRecords {X : Type 0} (form : Form X) (records : List X) : Type 0 where
  pub valid : All (λ (r : X). form.is_valid r ≡ true) records
  pub ascend : AllPairs (λ (a b : X). form.order a b ≡ Less) records
  pub agree : AllPairs (λ (a b : X). form.agree a b ≡ true) records
  pub few : length records ≤ form.most

-- a root that is a node has two children
abbrev pub least_of_root : ℕ → ℕ
least_of_root zero = 0
least_of_root (suc level) = 2

-- the blocks and the records of the tree below a root
abbrev pub blocks_under : {X : Type 0} → Held X → ℕ → ℕ → List ℕ
blocks_under held root level = concat (rows_from held level (root ∷ []))

abbrev pub records_under : {X : Type 0} → Held X → ℕ → ℕ → List X
records_under held root level = flat_map held.records (leaves_from held level (root ∷ []))

-- a block of the pool that isn't free. Block 0 is no block of the pool.
pub record IsUsed (free : ℕ → Bool) (pool n : ℕ) : Type 0 where
  pub from : 1 ≤ n
  pub below : n < pool
  pub taken : free n ≡ false

pub record IsWholeTree {X : Type 0} (form : Form X) (site : Site) (at : ℕ → List ℕ) (free : ℕ → Bool) (pool root level : ℕ) : Type 0 where
  pub rows : AreRowsOf form site at (held_in form at) (least_of_root level) level (root ∷ [])
  pub records : AreRecords form (records_under (held_in form at) root level)
  -- no block stands twice in the tree, and all are its own
  pub distinct : AllPairs (λ (m n : ℕ). m ≢ n) (blocks_under (held_in form at) root level)
  pub owned : All (IsUsed free pool) (blocks_under (held_in form at) root level)

-- the same in an overlay
abbrev pub site_of : Blocks → Site
site_of b = record { first = b.first; owner = b.owner; uuid = b.uuid }

abbrev pub tree_held : {X : Type 0} → Form X → Blocks → Held X
tree_held form b = held_in form (block_at b)

abbrev pub tree_records : {X : Type 0} → Form X → Blocks → ℕ → ℕ → List X
tree_records form b root level = records_under (tree_held form b) root level

abbrev pub tree_blocks : {X : Type 0} → Form X → Blocks → ℕ → ℕ → List ℕ
tree_blocks form b root level = blocks_under (tree_held form b) root level

abbrev pub IsTreeIn : {X : Type 0} → Form X → Blocks → ℕ → ℕ → Type 0
IsTreeIn form b root level = IsWholeTree form (site_of b) (block_at b) (is_free b) (pool_size b) root level

-- the blocks of the rows from one on down, and the records of its leaves
abbrev pub blocks_of : {X : Type 0} → Form X → Blocks → ℕ → List ℕ → List ℕ
blocks_of form b level row = concat (rows_from (tree_held form b) level row)

abbrev pub records_of : {X : Type 0} → Form X → Blocks → ℕ → List ℕ → List X
records_of form b level row = flat_map (tree_held form b).records (leaves_from (tree_held form b) level row)
