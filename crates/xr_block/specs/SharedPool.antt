-- Several trees in one pool: a change of one of them is a change of them all, block 0 is of none of them, and the pool stays parted
-- among them.
use Rattle.std.specs.Prelude.{◌≡◌, ◌≢◌, ◌↔◌, ℕ, ◌<◌, ◌≤◌, if◌then◌else◌, false, List, [], ◌∷◌, ◌++◌}
use Rattle.std.specs.List.{Contains}
use Rattle.xr_block.specs.Frame.{ChangesOnly, Stays}
use Rattle.xr_block.specs.Tree.{IsTreeIn, IsUsed}
use Rattle.xr_kinds.specs.Form.{Form}
use Rattle.xr_pool.specs.Overlay.{Blocks, is_free, pool_size, with_block}

-- blocks that aren't free, and that a tree doesn't have
abbrev pub AreBeside : Blocks → List ℕ → List ℕ → Type 0
AreBeside b blocks others = (n : ℕ) → Contains others n → (is_free b n ≡ false) × ¬ (Contains blocks n)

abbrev pub HaveSameMembers : List ℕ → List ℕ → Type 0
HaveSameMembers xs ys = (n : ℕ) → Contains xs n ↔ Contains ys n

-- a change of a tree is a change of its blocks and of others that it leaves alone, in any order
abbrev pub WidenToOthers : Type 0
WidenToOthers =
    (before after : Blocks) (old new others : List ℕ) → ChangesOnly before old after new → AreBeside before old others
    → ChangesOnly before (others ++ old) after (others ++ new)

abbrev pub HoldInAnyOrder : Type 0
HoldInAnyOrder =
    (before after : Blocks) (old new old' new' : List ℕ) → ChangesOnly before old after new → HaveSameMembers old old' → HaveSameMembers new new'
    → ChangesOnly before old' after new'

-- block 0 as a list of blocks that aren't free: the map of free blocks may say of it what it likes
abbrev pub block_zero : Blocks → List ℕ
block_zero b = if is_free b 0 then [] else 0 ∷ []

-- other bytes in block 0 are no change of a tree
abbrev pub ChangesBlockZero : Type 0
ChangesBlockZero = (b : Blocks) (bytes : List ℕ) → ChangesOnly b (block_zero b) (with_block b 0 bytes) (block_zero b)

abbrev pub StaysBesideBlockZero : {X : Type 0} → Form X → Type 0
StaysBesideBlockZero form =
    (b : Blocks) (bytes : List ℕ) (root level : ℕ) → IsTreeIn form b root level → Stays form b (with_block b 0 bytes) root level (block_zero b)

-- each block of the pool from 1 on is free, or it is of exactly one of some trees, of which the i-th has the blocks `parts i`
pub record IsPartedPool (b : Blocks) (parts : ℕ → List ℕ) : Type 0 where
  pub apart : (i j n : ℕ) → Contains (parts i) n → Contains (parts j) n → i ≡ j
  pub used : (i n : ℕ) → Contains (parts i) n → IsUsed (is_free b) (pool_size b) n
  pub every : (n : ℕ) → 1 ≤ n → n < pool_size b → is_free b n ≡ false → (i : ℕ) × Contains (parts i) n

-- the others of the trees have the blocks that they had
abbrev pub AreSameBut : ℕ → (ℕ → List ℕ) → (ℕ → List ℕ) → Type 0
AreSameBut k before after = (i : ℕ) → i ≢ k → after i ≡ before i

-- what the trees beside one have is beside it, and the pool stays parted where that one is changed
abbrev pub PartsAreBeside : Type 0
PartsAreBeside = (b : Blocks) (parts : ℕ → List ℕ) (i k : ℕ) → IsPartedPool b parts → i ≢ k → AreBeside b (parts k) (parts i)

abbrev pub StaysParted : Type 0
StaysParted =
    (a b : Blocks) (before after : ℕ → List ℕ) (k : ℕ) → IsPartedPool a before → ChangesOnly a (before k) b (after k) → AreSameBut k before after
    → ((n : ℕ) → Contains (after k) n → IsUsed (is_free b) (pool_size b) n) → IsPartedPool b after

abbrev pub StaysPartedBesideBlockZero : Type 0
StaysPartedBesideBlockZero = (b : Blocks) (bytes : List ℕ) (parts : ℕ → List ℕ) → IsPartedPool b parts → IsPartedPool (with_block b 0 bytes) parts
