-- The path from a block of a tree down to the leaf in which a record belongs, and the full blocks on it.
use Rattle.std.specs.Prelude.{◌≡◌, ℕ, zero, suc, ◌+◌, ◌-◌, ◌^◌, ◌<◌, ◌≤◌, ◌==◌, ⊤, Bool, true, if◌then◌else◌, List, [], ◌∷◌, ◌++◌, length, slice_index_or, take, drop}
use Rattle.std.specs.List.{All, AllPairs}
use Rattle.std.specs.declared.cmp.Ordering.TheVariants.{Less}
use Rattle.xr_kinds.specs.Form.{Form}
use Rattle.xr_pool.specs.Overlay.{Blocks, block_at, AreKnown}
use Rattle.xr_block.specs.Rows.{named_below}
use Rattle.xr_block.specs.Tree.{records_of, tree_held}
use Rattle.xr_block.specs.TreeBlock.{Entry, entries_in, records_in}
use Rattle.xr_change.specs.Alters.{AreRowsIn}
use Rattle.xr_block.specs.Bounds.{entry_is_before}
use Rattle.xr_block.specs.declared.bound.Bound.TheVariants.{After}

-- how many items there are, at most, and whether a block of a level has as many
abbrev pub item_count : {X : Type 0} → Form X → Blocks → ℕ → ℕ → ℕ
item_count form b zero n = length (records_in form (block_at b n))
item_count form b (suc level) n = length (entries_in form (block_at b n))

abbrev pub max_records : {X : Type 0} → Form X → ℕ → ℕ
max_records form zero = form.leaf_max
max_records form (suc level) = form.node_max

abbrev pub is_full : {X : Type 0} → Form X → Blocks → ℕ → ℕ → Bool
is_full form b level n = item_count form b level n == max_records form level

-- a child of a node
abbrev pub child_of : {X : Type 0} → Form X → Blocks → ℕ → ℕ → ℕ
child_of form b n k = slice_index_or (named_below (tree_held form b) n) k 0

-- the items of two children of a node, one after the other
abbrev pub items_of_two : {X : Type 0} → Form X → Blocks → ℕ → ℕ → ℕ → ℕ
items_of_two form b level n k = item_count form b level (child_of form b n k) + item_count form b level (child_of form b n (k + 1))

-- how many items stand in front of the first that fails
unfoldable pub passing : {A : Type 0} → (A → Bool) → List A → ℕ
passing test [] = 0
passing test (x ∷ xs) = if test x then suc (passing test xs) else 0

-- the child under which a record belongs: the last that doesn't begin after it, or else the first
abbrev pub path_index : {X : Type 0} → Form X → X → List Entry → ℕ
path_index form r entries = passing (entry_is_before form (After r)) entries - 1

-- the full blocks on the path from a block down
unfoldable pub full_on_path : {X : Type 0} → Form X → Blocks → ℕ → ℕ → X → ℕ
full_on_path form b zero n r = if is_full form b zero n then 1 else 0
full_on_path form b (suc level) n r =
    (if is_full form b (suc level) n then 1 else 0)
    + full_on_path form b level (child_of form b n (path_index form r (entries_in form (block_at b n)))) r

-- 1 where the child on the path is full
abbrev pub next_full : {X : Type 0} → Form X → Blocks → ℕ → ℕ → X → ℕ
next_full form b zero n r = 0
next_full form b (suc level) n r = if is_full form b level (child_of form b n (path_index form r (entries_in form (block_at b n)))) then 1 else 0

-- the blocks that an insertion takes at most: one for each full block on its path, and one more where the root is full
abbrev pub blocks_wanted : {X : Type 0} → Form X → Blocks → ℕ → ℕ → X → ℕ
blocks_wanted form b level root r = full_on_path form b level root r + (if is_full form b level root then 1 else 0)

-- all records under the children in front of one are below a record, and those after it above
pub record IsOnPath {X : Type 0} (form : Form X) (b : Blocks) (level n : ℕ) (r : X) (k : ℕ) : Type 0 where
  pub within : k < length (entries_in form (block_at b n))
  pub before : All (λ (x : X). form.order x r ≡ Less) (records_of form b level (take k (named_below (tree_held form b) n)))
  pub after : All (λ (x : X). form.order r x ≡ Less) (records_of form b level (drop (suc k) (named_below (tree_held form b) n)))

-- a block of a tree, in its row
pub record IsInTree {X : Type 0} (form : Form X) (b : Blocks) (level n : ℕ) : Type 0 where
  pub least : ℕ
  pub pre : List ℕ
  pub post : List ℕ
  pub rows : AreRowsIn form b least level (pre ++ n ∷ post)
  pub valid : All (λ (x : X). form.is_valid x ≡ true) (records_of form b level (n ∷ []))
  pub ascend : AllPairs (λ (x y : X). form.order x y ≡ Less) (records_of form b level (n ∷ []))
  pub agree : AllPairs (λ (x y : X). form.agree x y ≡ true) (records_of form b level (n ∷ []))

-- a node has a child at least
abbrev pub HasSome : {X : Type 0} → Form X → Blocks → ℕ → ℕ → Type 0
HasSome form b zero n = ⊤
HasSome form b (suc level) n = 1 ≤ length (entries_in form (block_at b n))

-- and two at least
abbrev pub HasTwo : {X : Type 0} → Form X → Blocks → ℕ → ℕ → Type 0
HasTwo form b zero n = ⊤
HasTwo form b (suc level) n = 2 ≤ length (entries_in form (block_at b n))

-- the k-th child of a node of a tree, and what is known of the overlay
pub record IsChildAt {X : Type 0} (form : Form X) (b : Blocks) (level n k c : ℕ) : Type 0 where
  pub known : AreKnown b
  pub here : IsInTree form b (suc level) n
  pub within : k < length (entries_in form (block_at b n))
  pub few : length (entries_in form (block_at b n)) ≤ form.node_max
  pub small : length (entries_in form (block_at b n)) < 2 ^ 16
  pub is : c ≡ child_of form b n k
