-- A pool's blocks as they were last kept and as they are now: what a file and a group are seen as.
use Rattle.std.specs.Prelude.{◌≡◌, ◌↔◌, ℕ, suc, ◌+◌, ◌%◌, ◌<◌, ◌≤◌, false, List, [], length, take, slice_index, slice_index_or}
use Rattle.std.specs.List.{Contains}
use Rattle.xr_base.specs.Image.{block_of, part}
use Rattle.xr_block.specs.Tree.{IsUsed}
use Rattle.xr_block.specs.Trees.{IsTree}
use Rattle.xr_block.specs.declared.root.Root.{Root}
use Rattle.xr_kinds.specs.Form.{Form}
use Rattle.xr_pool.specs.Bits.{has_bit}
use Rattle.xr_pool.specs.Overlay.{AreBlocks, Blocks, blocks_in, changed_blocks, is_free, no_marks, pool_size}

-- the number and identifier of what has the blocks, the blocks as they were kept and as they are now, and which of them may differ
pub record PoolState : Type 0 where
  pub number : ℕ
  pub uuid : List ℕ
  pub kept : List (List ℕ)
  pub blocks : List (List ℕ)
  pub changed : List ℕ

-- what is now is kept, and what was kept is back
abbrev pub kept_now : PoolState → PoolState
kept_now s = record s { kept = s.blocks; changed = [] }

abbrev pub dropped_to_kept : PoolState → PoolState
dropped_to_kept s = record s { blocks = s.kept; changed = [] }

-- some blocks as a pool that nothing was changed in
abbrev pub pool_with : List (List ℕ) → List ℕ → ℕ → ℕ → List ℕ → Blocks
pool_with blocks free first owner uuid = record {
  kept = blocks;
  current = blocks;
  changed = no_marks blocks;
  kept_free = free;
  free = free;
  first = first;
  owner = owner;
  uuid = uuid;
}

-- what isn't marked as changed is as it was kept, and what is marked is a block of the pool
abbrev pub UnmarkedAreKept : Type 0
UnmarkedAreKept = (b : Blocks) → AreBlocks b → (n : ℕ) → ¬ (Contains (changed_blocks b) n) → slice_index_or b.kept n [] ≡ slice_index_or b.current n []

abbrev pub MarkedAreBelow : Type 0
MarkedAreBelow = (b : Blocks) → AreBlocks b → (n : ℕ) → Contains (changed_blocks b) n → n < length b.current

-- the first block is the front of the bytes, and what stands in the front stands in them
abbrev pub FirstBlockIsFront : Type 0
FirstBlockIsFront = (n : ℕ) (bytes : List ℕ) → slice_index_or (blocks_in (suc n) bytes) 0 [] ≡ block_of bytes 0

abbrev pub PartsOfFrontStay : Type 0
PartsOfFrontStay = (k at n : ℕ) (bytes : List ℕ) → at + n ≤ k → part at n (take k bytes) ≡ part at n bytes

-- a free map keeps the first block where its first byte is even
abbrev pub EvenMapsKeepBlockZero : Type 0
EvenMapsKeepBlockZero = (free : List ℕ) → (has_bit free 0 ≡ false) ↔ (slice_index free 0 % 2 ≡ 0)

-- the root of a tree is a block of the pool that isn't free
abbrev pub RootsAreUsed : {X : Type 0} → Form X → Type 0
RootsAreUsed form = (b : Blocks) (t : Root) → IsTree form b t → IsUsed (is_free b) (pool_size b) t.block
