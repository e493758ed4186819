-- A file by its blocks: whether some blocks are one, what it maps, and what its calls leave.
use Rattle.std.specs.Prelude.{◌≡◌, ◌≢◌, ◌⊎◌, ℕ, ◌+◌, ◌*◌, ◌<◌, ◌≤◌, true, List, [], ◌∷◌, length, take, slice_index_or, Option}
use Rattle.std.specs.List.{All, AllPairs, Contains}
use Rattle.xr_base.specs.declared.address.Addr.{Addr}
use Rattle.xr_base.specs.declared.geometry.TheConstants.{FILE_BLOCKS, FIRST_FILE_BLOCK, FIRST_INODE, UUID_BYTES}
use Rattle.xr_block.specs.Trees.{blocks_of_tree, records_of_tree}
use Rattle.xr_block.specs.declared.root.Root.{Root}
use Rattle.xr_bmap.specs.Slots.{mapped_in}
use Rattle.xr_headers.specs.Headers.{IsCore, core_block, core_in}
use Rattle.xr_headers.specs.declared.file_core.Core.{Core}
use Rattle.xr_headers.specs.declared.layout.TheConstants.{CORE_BYTES}
use Rattle.xr_kinds.specs.Mapping.{mapping_form}
use Rattle.xr_kinds.specs.declared.mapping.Mapping.{Mapping}
use Rattle.xr_maps.specs.Steps.{punched_slot, remapped_slot}
use Rattle.xr_open.specs.PoolState.{PoolState, pool_with}
use Rattle.xr_pool.specs.Overlay.{AreWhole, Blocks, is_free}
use Rattle.xr_tree.specs.Room.{IsFileTree}

-- the image block of a file's core
abbrev pub first_of_file : ℕ → ℕ
first_of_file file = FIRST_FILE_BLOCK + FILE_BLOCKS * file

-- the core that the first block holds, and the root that it names
abbrev pub core_of_blocks : ℕ → List ℕ → List (List ℕ) → Core
core_of_blocks file uuid blocks = core_in (take CORE_BYTES (slice_index_or blocks 0 [])) file uuid

abbrev pub root_of_core : Core → Root
root_of_core core = record { block = core.root; level = core.level }

abbrev pub root_of_blocks : ℕ → List ℕ → List (List ℕ) → Root
root_of_blocks file uuid blocks = root_of_core (core_of_blocks file uuid blocks)

-- the blocks as a pool, with the free ones that the core names
abbrev pub pool_of_blocks : ℕ → List ℕ → List (List ℕ) → Blocks
pool_of_blocks file uuid blocks = pool_with blocks ((core_of_blocks file uuid blocks).free ∷ []) (first_of_file file) (FIRST_INODE + file) uuid

-- the first block is a core of this file
pub record HasCore (file : ℕ) (uuid : List ℕ) (blocks : List (List ℕ)) : Type 0 where
  pub valid : IsCore (core_of_blocks file uuid blocks)
  pub core : slice_index_or blocks 0 [] ≡ core_block (core_of_blocks file uuid blocks)

-- the blocks are a file: the core names the root of a tree, and just the blocks of the pool that the tree doesn't have are free
pub record IsFile (file : ℕ) (uuid : List ℕ) (blocks : List (List ℕ)) : Type 0 where
  pub whole : AreWhole blocks
  pub core : HasCore file uuid blocks
  pub tree : IsFileTree (pool_of_blocks file uuid blocks) (root_of_blocks file uuid blocks)

-- a file with its committed blocks, its blocks now, and which of them may differ
abbrev pub FileState : Type 0
FileState = PoolState

-- what holds of every file
pub record AreFileStates (f : FileState) : Type 0 where
  pub identified : length f.uuid ≡ UUID_BYTES
  pub kept_file : IsFile f.number f.uuid f.kept
  pub file : IsFile f.number f.uuid f.blocks
  pub others : (n : ℕ) → ¬ (Contains f.changed n) → slice_index_or f.kept n [] ≡ slice_index_or f.blocks n []
  pub rising : AllPairs (λ (m n : ℕ). m < n) f.changed
  pub below : All (λ (n : ℕ). n < FILE_BLOCKS) f.changed

-- the extents of a file, and what it maps at an offset
abbrev pub extents_in : ℕ → List ℕ → List (List ℕ) → List Mapping
extents_in file uuid blocks = records_of_tree mapping_form (pool_of_blocks file uuid blocks) (root_of_blocks file uuid blocks)

abbrev pub slot_of_file : FileState → ℕ → Option Addr
slot_of_file f o = mapped_in (extents_in f.number f.uuid f.blocks) o

-- the blocks of a file's tree
abbrev pub tree_of_file : FileState → List ℕ
tree_of_file f = blocks_of_tree mapping_form (pool_of_blocks f.number f.uuid f.blocks) (root_of_blocks f.number f.uuid f.blocks)

-- a change of a file: a block is marked only where it was, or it is a core that is another one now, or it was the tree's own, or free
pub record ChangesFile (old new : FileState) : Type 0 where
  pub number : new.number ≡ old.number
  pub uuid : new.uuid ≡ old.uuid
  pub kept : new.kept ≡ old.kept
  pub marked : (n : ℕ) → Contains new.changed n → Contains old.changed n ⊎ (n ≡ 0) ⊎ Contains (tree_of_file old) n
      ⊎ (is_free (pool_of_blocks old.number old.uuid old.blocks) n ≡ true)
  pub core : Contains new.changed 0 → Contains old.changed 0 ⊎ (slice_index_or new.blocks 0 [] ≢ slice_index_or old.blocks 0 [])
  pub few : length new.changed ≤ FILE_BLOCKS

abbrev pub RemapsFile : ℕ → ℕ → Addr → FileState → FileState → Type 0
RemapsFile off len at old new = (o : ℕ) → slot_of_file new o ≡ remapped_slot off len at o (slot_of_file old o)

abbrev pub PunchesFile : ℕ → ℕ → FileState → FileState → Type 0
PunchesFile off len old new = (o : ℕ) → slot_of_file new o ≡ punched_slot off len o (slot_of_file old o)
