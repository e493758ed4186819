-- A tree by its root: whether there is one, what it holds, and its blocks.
use Rattle.std.specs.Prelude.{◌≡◌, ℕ, true, false, List}
use Rattle.std.specs.List.{All, Contains}
use Rattle.xr_block.specs.Tree.{IsTreeIn, tree_blocks, tree_records}
use Rattle.xr_block.specs.declared.root.Root.{Root}
use Rattle.xr_kinds.specs.Form.{Form}
use Rattle.xr_pool.specs.Bits.{has_bit}
use Rattle.xr_pool.specs.Overlay.{Blocks}

abbrev pub IsTree : {X : Type 0} → Form X → Blocks → Root → Type 0
IsTree form b t = IsTreeIn form b t.block t.level

abbrev pub records_of_tree : {X : Type 0} → Form X → Blocks → Root → List X
records_of_tree form b t = tree_records form b t.block t.level

abbrev pub blocks_of_tree : {X : Type 0} → Form X → Blocks → Root → List ℕ
blocks_of_tree form b t = tree_blocks form b t.block t.level

-- a tree whose blocks aren't marked
abbrev pub IsOwnTree : {X : Type 0} → Form X → Blocks → Root → List ℕ → Type 0
IsOwnTree form b t seen = IsTree form b t × All (λ (n : ℕ). has_bit seen n ≡ false) (blocks_of_tree form b t)

-- these blocks are marked, and of the others those that were
pub record Marks (old blocks new : List ℕ) : Type 0 where
  pub these : (n : ℕ) → Contains blocks n → has_bit new n ≡ true
  pub others : (n : ℕ) → ¬ (Contains blocks n) → has_bit new n ≡ has_bit old n
