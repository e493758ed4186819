-- A tree as it is visited, each block before its children and from left to right: what is asked of each block, and what is
-- known after some of them.
use Rattle.std.specs.Prelude.{◌≡◌, ℕ, zero, suc, ◌+◌, ◌-◌, ◌<◌, ◌≤◌, ◌&&◌, ⊤, Bool, true, false, nat_le, nat_lt, if◌then◌else◌, IfSome, Option, Some, None, List, [], ◌∷◌, ◌++◌, length, map}
use Rattle.std.specs.Borrow.{Bor}
use Rattle.std.specs.List.{flat_map}
use Rattle.xr_pool.specs.Bits.{has_bit}
use Rattle.xr_block.specs.Checks.{IsCheckedLeaf, IsCheckedNode, left_in, right_in}
use Rattle.xr_kinds.specs.Form.{Form}
use Rattle.xr_block.specs.NodeEntries.{child_in, key_in}
use Rattle.xr_pool.specs.Overlay.{Blocks, block_at, is_free, pool_size}
use Rattle.xr_block.specs.Rows.{min_records, key_held, named_below}
use Rattle.xr_block.specs.Times.{times}
use Rattle.xr_block.specs.Tree.{AreRecords, IsUsed, blocks_of, records_of, site_of, tree_held}
use Rattle.xr_block.specs.TreeBlock.{Entry, count_in, entries_in}

abbrev pub IsChecked : {X : Type 0} → Form X → Blocks → ℕ → ℕ → ℕ → Type 0
IsChecked form b least zero n = IsCheckedLeaf form (site_of b) least n (block_at b n)
IsChecked form b least (suc level) n = IsCheckedNode form (site_of b) least n (suc level) (block_at b n)

-- the children of a node
abbrev pub children : {X : Type 0} → Form X → Blocks → ℕ → List ℕ
children form b n = named_below (tree_held form b) n

-- a node gives each child the key that it has
abbrev pub HasOwnKeys : {X : Type 0} → Form X → Blocks → ℕ → ℕ → Type 0
HasOwnKeys form b zero n = ⊤
HasOwnKeys form b (suc level) n =
    map (λ (e : Entry). e.key) (entries_in form (block_at b n)) ≡ map (key_held form (tree_held form b) level) (children form b n)

-- the key that a node gives for a block, if it is below one, is the block's own
abbrev pub IsKeyOf : {X : Type 0} → Form X → Blocks → ℕ → ℕ → Option (Bor (List ℕ)) → Type 0
IsKeyOf form b level n key = IfSome key (λ k. k.now ≡ key_held form (tree_held form b) level n)

-- the left sibling of a block's first child is the last child of its own left sibling
abbrev pub last_below : {X : Type 0} → Form X → Blocks → Option ℕ → Option ℕ
last_below form b None = None
last_below form b (Some m) =
    let count : ℕ = count_in (block_at b m) in
    if nat_lt m (pool_size b) && nat_lt 0 count && nat_le count form.node_max then Some (child_in form (count - 1) (block_at b m)) else None

-- the block visited before one in its level names it as its right sibling
abbrev pub IsBack : {X : Type 0} → Form X → Blocks → Option ℕ → ℕ → Type 0
IsBack form b left n = IfSome left (λ m. (m < pool_size b) × (right_in form (block_at b m) ≡ Some n))

-- from one of its children on
abbrev pub AreNamedFrom : {X : Type 0} → Form X → Blocks → ℕ → ℕ → ℕ → Type 0
AreNamedFrom form b level n from =
    (k : ℕ) → from ≤ k → k < count_in (block_at b n)
    → key_in form k (block_at b n) ≡ key_held form (tree_held form b) level (child_in form k (block_at b n))

-- a node has a child at least
abbrev pub HasChildren : ℕ → ℕ → Type 0
HasChildren least zero = ⊤
HasChildren least (suc level) = 1 ≤ least

-- a block of a level, between the block visited before it, if there is one, and the next one, unless it is the last
pub record IsLinked {X : Type 0} (form : Form X) (b : Blocks) (left : Option ℕ) (last : Bool) (n : ℕ) : Type 0 where
  pub left_is : left_in form (block_at b n) ≡ left
  pub back : IsBack form b left n
  pub ended : last ≡ true → right_in form (block_at b n) ≡ None

pub record IsVisited {X : Type 0} (form : Form X) (b : Blocks) (least level : ℕ) (left : Option ℕ) (last : Bool) (n : ℕ) : Type 0 where
  pub used : IsUsed (is_free b) (pool_size b) n
  pub tested : IsChecked form b least level n
  pub linked : IsLinked form b left last n
  pub named : HasOwnKeys form b level n

abbrev pub is_end : List ℕ → Bool
is_end [] = true
is_end (n ∷ ns) = false

-- some blocks of a level, one after the other
unfoldable pub AreVisited : {X : Type 0} → Form X → Blocks → ℕ → ℕ → Option ℕ → Bool → List ℕ → Type 0
AreVisited form b least level left last [] = ⊤
AreVisited form b least level left last (n ∷ ns) = IsVisited form b least level left (is_end ns && last) n × AreVisited form b least level (Some n) last ns

-- and all blocks below them
unfoldable pub AreTrees : {X : Type 0} → Form X → Blocks → ℕ → ℕ → Option ℕ → Bool → List ℕ → Type 0
AreTrees form b least zero left last row = AreVisited form b least zero left last row
AreTrees form b least (suc level) left last row =
    AreVisited form b least (suc level) left last row
    × AreTrees form b (min_records form level) level (last_below form b left) last (flat_map (children form b) row)

-- whether a block is marked
abbrev pub mark : List ℕ → ℕ → ℕ
mark seen n = if has_bit seen n then 1 else 0

-- a block that belongs to no tree yet, and isn't free
pub record IsUnvisited (b : Blocks) (n : ℕ) (seen : List ℕ) : Type 0 where
  pub taken : is_free b n ≡ false
  pub unmarked : has_bit seen n ≡ false

-- a block that is entered: its own bytes and its links are right, and it isn't marked
pub record IsEntered {X : Type 0} (form : Form X) (b : Blocks) (least level : ℕ) (left : Option ℕ) (last : Bool) (n : ℕ) (seen : List ℕ) : Type 0 where
  pub used : IsUsed (is_free b) (pool_size b) n
  pub unmarked : has_bit seen n ≡ false
  pub tested : IsChecked form b least level n
  pub linked : IsLinked form b left last n

-- no block stands twice or was marked before
abbrev pub AreFresh : List ℕ → List ℕ → Type 0
AreFresh seen blocks = (n : ℕ) → times n blocks + mark seen n ≤ 1

-- these blocks are marked too, and no others
pub record AreMarked (seen blocks now : List ℕ) : Type 0 where
  pub long : length now ≡ length seen
  pub marks : (n : ℕ) → mark now n ≡ times n blocks + mark seen n

-- the trees below some blocks of a level keep all rules, after some records
pub record AreSound {X : Type 0} (form : Form X) (b : Blocks) (least level : ℕ) (left : Option ℕ) (last : Bool) (row seen : List ℕ) (noted : List X) : Type 0 where
  pub trees : AreTrees form b least level left last row
  pub fresh : AreFresh seen (blocks_of form b level row)
  pub records : AreRecords form (noted ++ records_of form b level row)
