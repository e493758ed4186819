-- Of no public contract.
-- The items of a block of any level, records of a leaf or entries of a node, and sibling children of a node that are taken for others which
-- hold the same items: one is split, two share their items anew, or two become one.
use Rattle.std.specs.Prelude.{◌≡◌, ℕ, zero, suc, ◌<◌, ◌≤◌, true, Option, Some, List, [], ◌∷◌, ◌++◌, length, map, take, drop}
use Rattle.std.specs.List.{flat_map}
use Rattle.xr_kinds.specs.Form.{Form}
use Rattle.xr_pool.specs.Overlay.{Blocks, block_at, is_free, pool_size}
use Rattle.xr_block.specs.Rows.{AreLinked, min_records, key_held, named_below}
use Rattle.xr_block.specs.Times.{times}
use Rattle.xr_block.specs.Tree.{blocks_of, records_of, site_of, tree_held}
use Rattle.xr_block.specs.TreeBlock.{Entry, Place, Site, count_in, entries_in, node_bytes, records_in, tree_block}
use Rattle.xr_change.specs.Alters.{Alters, HoldsSame, IsWholeAt, Takes}
use Rattle.xr_change.specs.Paths.{max_records}
use Rattle.xr_change.specs.Writes.{Writes, WritesOnly}
use Rattle.xr_block.specs.Edits.{IsLeafOf, IsNodeOf}
use Rattle.xr_block.specs.Checks.{HoldsRecords, left_in, place_in, right_in}

abbrev pub Item : Type 0 → ℕ → Type 0
Item X zero = X
Item X (suc level) = Entry

unfoldable pub items_held : {X : Type 0} → Form X → (level : ℕ) → List ℕ → List (Item X level)
items_held form zero bytes = records_in form bytes
items_held form (suc level) bytes = entries_in form bytes

-- a whole block of a level with these items
unfoldable pub IsBlockOf : {X : Type 0} → Form X → (level : ℕ) → Site → Place → List (Item X level) → List ℕ → Type 0
IsBlockOf form zero site place items bytes = IsLeafOf form site place items bytes
IsBlockOf form (suc level) site place items bytes = IsNodeOf form site place items bytes

-- the place that a block names
abbrev pub place_named : {X : Type 0} → Form X → Blocks → ℕ → ℕ → Place
place_named form b level n = place_in form n level (block_at b n)

-- a block that gives a key to its parent
pub record GivesKey {X : Type 0} (form : Form X) (level : ℕ) (bytes : List ℕ) : Type 0 where
  pub tested : level ≡ 0 → HoldsRecords form bytes
  pub some : 1 ≤ count_in bytes
  pub few : count_in bytes ≤ max_records form level

-- a whole block of a level, between its siblings
pub record IsBetweenSiblings {X : Type 0} (form : Form X) (b : Blocks) (level c : ℕ) : Type 0 where
  pub below : c < pool_size b
  pub whole : IsWholeAt form (site_of b) (tree_held form b) level (min_records form level) (place_named form b level c) (block_at b c)
  pub left_below : (q : ℕ) → left_in form (block_at b c) ≡ Some q → q < pool_size b
  pub right_below : (q : ℕ) → right_in form (block_at b c) ≡ Some q → q < pool_size b
  pub right_apart : (q : ℕ) → right_in form (block_at b c) ≡ Some q → q ≡ c → ⊥

-- a block whose left sibling was one block has another, and is the same beside
abbrev pub HasNewLeft : {X : Type 0} → Form X → Blocks → Blocks → ℕ → ℕ → ℕ → Type 0
HasNewLeft form before after q old new =
    (place : Place) (count : ℕ) (items : List ℕ) → place.number ≡ q → place.left ≡ Some old
    → block_at before q ≡ tree_block form (site_of before) place count items
    → block_at after q ≡ tree_block form (site_of before) (record place { left = Some new }) count items

-- some blocks of a level hold the items that others held, one block after the other
abbrev pub HaveSameItems : {X : Type 0} → Form X → Blocks → Blocks → ℕ → List ℕ → List ℕ → Type 0
HaveSameItems form before after level old new =
    flat_map (λ (m : ℕ). items_held form level (block_at after m)) new ≡ flat_map (λ (m : ℕ). items_held form level (block_at before m)) old

-- where these blocks were linked, those are
abbrev pub StayLinked : {X : Type 0} → Form X → Blocks → Blocks → ℕ → List ℕ → List ℕ → Type 0
StayLinked form before after level old new =
    (left right : Option ℕ) → AreLinked (IsWholeAt form (site_of before) (tree_held form before) level (min_records form level)) (block_at before) level left old right
    → AreLinked (IsWholeAt form (site_of before) (tree_held form after) level (min_records form level)) (block_at after) level left new right

-- the items of some blocks of a level, of which the last is `last`, are moved to others, of which the last is `last'`
pub record MovesItems {X : Type 0} (form : Form X) (a b : Blocks) (level : ℕ) (old new written : List ℕ) (last last' : ℕ) : Type 0 where
  pub writes : Writes a b written
  pub linked : StayLinked form a b level old new
  pub keyed : (m : ℕ) → 1 ≤ times m new → GivesKey form level (block_at b m)
  pub items : HaveSameItems form a b level old new
  pub next : (q : ℕ) → right_in form (block_at a last) ≡ Some q → HasNewLeft form a b q last last'

-- what a node holds for a child
abbrev pub entry_for : {X : Type 0} → Form X → Blocks → ℕ → ℕ → Entry
entry_for form b level m = record { key = key_held form (tree_held form b) level m; child = m }

-- a node holds other entries, at whatever place it stands
pub record HoldsNow {X : Type 0} (form : Form X) (before after : Blocks) (n : ℕ) (entries : List Entry) : Type 0 where
  pub node : (place : Place) → place.number ≡ n → block_at before n ≡ node_bytes form (site_of before) place (entries_in form (block_at before n))
      → block_at after n ≡ node_bytes form (site_of before) place entries
  pub holds : entries_in form (block_at after n) ≡ entries

-- a node names these children now, each with the key that it has
pub record NamesChildren {X : Type 0} (form : Form X) (a b d : Blocks) (level n : ℕ) (children : List ℕ) : Type 0 where
  pub only : WritesOnly b d n
  pub entries : List Entry
  pub now : HoldsNow form a d n entries
  pub names : map (λ (e : Entry). e.child) entries ≡ children
  pub keys : map (λ (e : Entry). e.key) entries ≡ map (key_held form (tree_held form b) level) children
  pub few : length entries ≤ form.node_max

-- the blocks of the rows below one
abbrev pub rows_below : {X : Type 0} → Form X → Blocks → ℕ → List ℕ → List ℕ
rows_below form b zero row = []
rows_below form b (suc level) row = blocks_of form b level (flat_map (named_below (tree_held form b)) row)

-- the level is that of the children. Those from the k-th to the one before the t-th are taken for others, and then the node names these.
pub record Regroups {X : Type 0} (form : Form X) (before after : Blocks) (level n k t : ℕ) (old new : List ℕ) : Type 0 where
  pub children : (let cs = named_below (tree_held form before) n in cs ≡ take k cs ++ (old ++ drop t cs))
  pub between : Blocks
  pub takes : Takes form before between level old new
  pub naming : (let cs = named_below (tree_held form before) n in NamesChildren form before between after level n (take k cs ++ (new ++ drop t cs)))
  -- the same items are in them, and what stands below stays
  pub items : HaveSameItems form before after level old new
  pub records : records_of form between level new ≡ records_of form before level old
  pub below : (m : ℕ) → 1 ≤ times m (rows_below form before level old) → HoldsSame form before after m
  pub spare : (m : ℕ) → is_free before m ≡ true → times m new ≡ 0 → is_free after m ≡ true

-- the tree under a block is another one with the same records
pub record IsSameUnder {X : Type 0} (form : Form X) (before after : Blocks) (floor level n : ℕ) : Type 0 where
  pub alters : Alters form before after floor level n
  pub records : records_of form after level (n ∷ []) ≡ records_of form before level (n ∷ [])
