-- Why blocks are refused as a tree: the first block that breaks a rule, and the first rule that it breaks. A block is visited
-- before its children, and these from left to right. What goes before it counts too: the blocks that were marked, the records
-- that were passed, and the block that was visited before it in its level.
use Rattle.std.specs.Prelude.{◌≡◌, ◌⊎◌, ℕ, zero, suc, ◌+◌, ◌<◌, ◌≤◌, ◌&&◌, ⊤, Bool, true, Option, Some, None, List, [], ◌∷◌, ◌++◌, length}
use Rattle.std.specs.List.{last_or}
use Rattle.xr_block.specs.declared.fault.TreeFault.{TreeFault}
use Rattle.xr_block.specs.declared.fault.TreeKind.{TreeKind}
use Rattle.xr_block.specs.declared.fault.TreeKind.TheVariants.{Bound, Key, Merge, Order, Range, Reuse, Sibling}
use Rattle.xr_block.specs.declared.root.Root.{Root}
use Rattle.xr_block.specs.NodeEntries.{key_in}
use Rattle.xr_block.specs.Refusals.{RefusesLeaf, RefusesNode}
use Rattle.xr_block.specs.Rows.{key_held, min_records}
use Rattle.xr_block.specs.Tree.{blocks_of, least_of_root, records_of, site_of, tree_held}
use Rattle.xr_block.specs.TreeBlock.{records_in}
use Rattle.xr_kinds.specs.Form.{Form}
use Rattle.xr_pool.specs.Overlay.{Blocks, block_at, pool_size}
use Rattle.xr_verify.specs.Ledger.{ArePassed, Climb}
use Rattle.xr_verify.specs.Visits.{AreMarked, AreSound, IsChecked, IsEntered, IsLinked, IsUnvisited, children, is_end, last_below}

-- a block by itself
abbrev pub RefusesBlock : {X : Type 0} → Form X → Blocks → ℕ → ℕ → ℕ → TreeKind → Type 0
RefusesBlock form b least zero n kind = RefusesLeaf form (site_of b) least n (block_at b n) kind
RefusesBlock form b least (suc level) n kind = RefusesNode form (site_of b) least n (suc level) (block_at b n) kind

-- it is free or marked, or breaks a rule by itself
abbrev pub RefusesOpening : {X : Type 0} → Form X → Blocks → ℕ → ℕ → ℕ → List ℕ → TreeKind → Type 0
RefusesOpening form b least level n seen kind =
    ((kind ≡ Reuse) × (IsUnvisited b n seen → ⊥)) ⊎ (IsUnvisited b n seen × RefusesBlock form b least level n kind)

-- its records don't ascend after those before, or don't agree with all of them
abbrev pub RefusesRecords : {X : Type 0} → Form X → List X → List X → TreeKind → Type 0
RefusesRecords form noted records kind =
    ((kind ≡ Order) × (Climb form (last_or None noted) records → ⊥))
    ⊎ ((kind ≡ Merge) × Climb form (last_or None noted) records × (ArePassed form (noted ++ records) → ⊥))

-- its parent gives it another key, or it isn't linked to those beside it
abbrev pub RefusesPlace : {X : Type 0} → Form X → Blocks → Option ℕ → Bool → ℕ → Type 0 → TreeKind → Type 0
RefusesPlace form b left last n IsNamed kind =
    ((kind ≡ Key) × (IsNamed → ⊥)) ⊎ ((kind ≡ Sibling) × IsNamed × (IsLinked form b left last n → ⊥))

-- a leaf, whose records may be too many at last
abbrev pub RefusesLeafAfter : {X : Type 0} → Form X → Blocks → ℕ → Option ℕ → Bool → ℕ → Type 0 → List ℕ → List X → TreeKind → Type 0
RefusesLeafAfter form b least left last n IsNamed seen noted kind =
    RefusesOpening form b least 0 n seen kind
    ⊎ (IsUnvisited b n seen × IsChecked form b least 0 n
    × (RefusesRecords form noted (records_in form (block_at b n)) kind
    ⊎ (ArePassed form (noted ++ records_in form (block_at b n))
    × (RefusesPlace form b left last n IsNamed kind
    ⊎ (IsNamed × IsLinked form b left last n × (kind ≡ Bound) × (form.most < length (noted ++ records_in form (block_at b n))))))))

-- a node, without what is below it
abbrev pub RefusesNodeAfter : {X : Type 0} → Form X → Blocks → ℕ → ℕ → Option ℕ → Bool → ℕ → Type 0 → List ℕ → TreeKind → Type 0
RefusesNodeAfter form b least level left last n IsNamed seen kind =
    RefusesOpening form b least level n seen kind
    ⊎ (IsUnvisited b n seen × IsChecked form b least level n × RefusesPlace form b left last n IsNamed kind)

-- a pointer names no block of the pool, or names the header: the fault of the block that holds it
abbrev pub IsPointer : Blocks → ℕ → Type 0
IsPointer b n = (1 ≤ n) × (n < pool_size b)

abbrev pub RefusesPointer : Blocks → ℕ → ℕ → TreeFault → Type 0
RefusesPointer b n c fault = (fault ≡ record { block = b.first + n; kind = Range }) × (IsPointer b c → ⊥)

-- The children of node n from the k-th on, where `RefusesChild` is why one of them is refused with all below it: the first of
-- them, or a later one after the first and all below it are right.
unfoldable pub RefusesRow : {X : Type 0} → Form X → Blocks → (Option ℕ → Bool → ℕ → Type 0 → List ℕ → List X → TreeFault → Type 0)
    → ℕ → ℕ → Bool → ℕ → List ℕ → Option ℕ → List ℕ → List X → TreeFault → Type 0
RefusesRow form b RefusesChild level n last k [] left seen noted fault = ⊥
RefusesRow form b RefusesChild level n last k (c ∷ cs) left seen noted fault =
    RefusesPointer b n c fault
    ⊎ (IsPointer b c × RefusesChild left (is_end cs && last) c (key_in form k (block_at b n) ≡ key_held form (tree_held form b) level c) seen noted fault)
    ⊎ (AreSound form b (min_records form level) level left (is_end cs && last) (c ∷ []) seen noted
    × (key_in form k (block_at b n) ≡ key_held form (tree_held form b) level c)
    × ((now : List ℕ) × AreMarked seen (blocks_of form b level (c ∷ [])) now
    × RefusesRow form b RefusesChild level n last (k + 1) cs (Some c) now (noted ++ records_of form b level (c ∷ [])) fault))

-- a block with all below it
unfoldable pub RefusesBelow : {X : Type 0} → Form X → Blocks → ℕ → ℕ → Option ℕ → Bool → ℕ → Type 0 → List ℕ → List X → TreeFault → Type 0
RefusesBelow form b zero least left last n IsNamed seen noted fault =
    (fault.block ≡ b.first + n) × RefusesLeafAfter form b least left last n IsNamed seen noted fault.kind
RefusesBelow form b (suc level) least left last n IsNamed seen noted fault =
    ((fault.block ≡ b.first + n) × RefusesNodeAfter form b least (suc level) left last n IsNamed seen fault.kind)
    ⊎ (IsEntered form b least (suc level) left last n seen × IsNamed
    × ((now : List ℕ) × AreMarked seen (n ∷ []) now
    × RefusesRow form b (RefusesBelow form b level (min_records form level)) level n last 0 (children form b n) (last_below form b left) now noted fault))

-- the blocks below a node, which stand at a level
abbrev pub RefusesChildren : {X : Type 0} → Form X → Blocks → ℕ → ℕ → Option ℕ → Bool → List ℕ → List X → TreeFault → Type 0
RefusesChildren form b level n left last seen noted fault =
    RefusesRow form b (RefusesBelow form b level (min_records form level)) level n last 0 (children form b n) (last_below form b left) seen noted fault

-- the blocks below a root, some blocks being marked. Where the root itself is none of the pool, that is the fault of block 0.
abbrev pub RefusesTree : {X : Type 0} → Form X → Blocks → Root → List ℕ → TreeFault → Type 0
RefusesTree form b t seen fault =
    RefusesPointer b 0 t.block fault
    ⊎ (IsPointer b t.block × RefusesBelow form b t.level (least_of_root t.level) None true t.block ⊤ seen [] fault)
