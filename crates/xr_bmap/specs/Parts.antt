-- Of no public contract.
-- A file as its overlay and the root of its tree.
use Rattle.std.specs.Prelude.{◌≡◌, ◌≢◌, ◌⊎◌, ℕ, ◌+◌, ◌<◌, ◌≤◌, true, false, List, length, slice_index}
use Rattle.std.specs.List.{Contains}
use Rattle.xr_base.specs.declared.geometry.TheConstants.{FILES, FILE_BLOCKS, FIRST_INODE, UUID_BYTES}
use Rattle.xr_block.specs.Trees.{blocks_of_tree, records_of_tree}
use Rattle.xr_block.specs.declared.root.Root.{Root}
use Rattle.xr_bmap.specs.File.{FileState, first_of_file}
use Rattle.xr_headers.specs.Headers.{IsCore, core_block}
use Rattle.xr_headers.specs.declared.file_core.Core.{Core}
use Rattle.xr_kinds.specs.Mapping.{mapping_form}
use Rattle.xr_pool.specs.Overlay.{AreWhole, Blocks, all_dropped, block_at, changed_blocks, is_changed, is_free}
use Rattle.xr_tree.specs.Room.{IsFileTree}

-- the core of a tree and its pool
abbrev pub core_of : ℕ → List ℕ → Blocks → Root → Core
core_of file uuid b t = record { ino = FIRST_INODE + file; uuid = uuid; root = t.block; level = t.level; free = slice_index b.free 0 }

-- where a file's blocks stand, and how many maps there are
pub record HasFilePlace (file : ℕ) (uuid : List ℕ) (b : Blocks) : Type 0 where
  pub first : b.first ≡ first_of_file file
  pub owner : b.owner ≡ FIRST_INODE + file
  pub uuid_kept : b.uuid ≡ uuid
  pub long : length uuid ≡ UUID_BYTES
  pub map : length b.free ≡ 1
  pub kept_map : length b.kept_free ≡ 1

-- the tree has all of the pool that isn't free, and block 0 is its core
pub record HasFile (file : ℕ) (uuid : List ℕ) (b : Blocks) (t : Root) : Type 0 where
  pub place : HasFilePlace file uuid b
  pub tree : IsFileTree b t
  pub valid : IsCore (core_of file uuid b t)
  pub core : block_at b 0 ≡ core_block (core_of file uuid b t)

-- so it is now, and so it was when it was kept
pub record AreFileParts (file : ℕ) (uuid : List ℕ) (b : Blocks) (now kept : Root) : Type 0 where
  pub now_file : HasFile file uuid b now
  pub kept_file : HasFile file uuid (all_dropped b) kept
  pub kept_whole : AreWhole b.kept

abbrev pub file_state_of : ℕ → List ℕ → Blocks → FileState
file_state_of file uuid b = record { number = file; uuid = uuid; kept = b.kept; blocks = b.current; changed = changed_blocks b }

-- the tree was changed, and block 0 is its core as it was before
pub record HasOldCore (file : ℕ) (uuid : List ℕ) (b : Blocks) (t : Root) (before : Core) : Type 0 where
  pub known : file < FILES
  pub place : HasFilePlace file uuid b
  pub tree : IsFileTree b t
  pub own_block : is_free b 0 ≡ false
  pub valid : IsCore before
  pub identified : length before.uuid ≡ UUID_BYTES
  pub core : block_at b 0 ≡ core_block before

-- only block 0 may be another one, and it is marked only where it is
pub record CoreWritten (a b : Blocks) (t : Root) : Type 0 where
  pub same_records : records_of_tree mapping_form b t ≡ records_of_tree mapping_form a t
  pub kept : b.kept ≡ a.kept
  pub dropped : all_dropped b ≡ all_dropped a
  pub marks : length b.changed ≡ length a.changed
  pub marked : (n : ℕ) → is_changed b n ≡ true → (is_changed a n ≡ true) ⊎ (n ≡ 0)
  pub differs : is_changed b 0 ≡ true → (is_changed a 0 ≡ true) ⊎ (block_at b 0 ≢ block_at a 0)

-- a change of the tree with its core
pub record ChangesFileParts (a : Blocks) (old : Root) (b : Blocks) : Type 0 where
  pub kept : b.kept ≡ a.kept
  pub dropped : all_dropped b ≡ all_dropped a
  pub marked : (n : ℕ) → is_changed b n ≡ true → (is_changed a n ≡ true) ⊎ (n ≡ 0) ⊎ Contains (blocks_of_tree mapping_form a old) n ⊎ (is_free a n ≡ true)
  pub differs : is_changed b 0 ≡ true → (is_changed a 0 ≡ true) ⊎ (block_at b 0 ≢ block_at a 0)
  pub few : length (changed_blocks b) ≤ FILE_BLOCKS
