-- The blocks of a pool, as they are now and as they were last kept.
use Rattle.std.specs.Prelude.{◌≡◌, ◌⊎◌, ◌↔◌, ℕ, zero, suc, ◌+◌, ◌-◌, ◌*◌, ◌/◌, ◌%◌, ◌<◌, ◌≤◌, ◌&&◌, Bool, true, false, nat_lt, if◌then◌else◌, List, [], ◌∷◌, ◌++◌, length, replicate, slice_index, slice_index_or, slice_set}
use Rattle.std.specs.List.{Contains}
use Rattle.xr_base.specs.Image.{block_of, part}
use Rattle.xr_base.specs.declared.geometry.TheConstants.{BLOCK_BYTES, BLOCKS, FILE_BLOCKS, FILES, FIRST_DATA_BLOCK, FIRST_FILE_BLOCK, FIRST_GROUP_BLOCK, FIRST_INODE, GROUP_BLOCKS, GROUPS, UUID_BYTES}
use Rattle.xr_pool.specs.Bits.{has_bit, with_bit, without_bit}
use Rattle.xr_pool.specs.Marks.{AreSameUnmarked, marked}

pub record Blocks : Type 0 where
  -- the blocks as they were last kept, and as they are now
  pub kept : List (List ℕ)
  pub current : List (List ℕ)
  -- which blocks may have changed since
  pub changed : List Bool
  -- the map of free blocks, kept and now
  pub kept_free : List ℕ
  pub free : List ℕ
  -- the image block of block 0, and whose blocks they are, as the headers of tree blocks say it
  pub first : ℕ
  pub owner : ℕ
  pub uuid : List ℕ

-- what holds of the blocks of every overlay
pub record AreBlocks (b : Blocks) : Type 0 where
  pub same_blocks : length b.kept ≡ length b.current
  pub marks : length b.changed ≡ length b.current
  pub same_maps : length b.kept_free ≡ length b.free
  pub map_room : length b.current ≤ 8 * length b.free
  pub within_image : b.first + length b.current ≤ BLOCKS
  pub others : AreSameUnmarked b.kept b.current b.changed

-- the bytes of a block
pub record IsBlock (bytes : List ℕ) : Type 0 where
  pub long : length bytes ≡ BLOCK_BYTES
  pub are_bytes : (i : ℕ) → slice_index bytes i < 256

abbrev pub AreWhole : List (List ℕ) → Type 0
AreWhole blocks = (n : ℕ) → n < length blocks → IsBlock (slice_index_or blocks n [])

abbrev pub pool_size : Blocks → ℕ
pool_size b = length b.current

abbrev pub block_at : Blocks → ℕ → List ℕ
block_at b n = slice_index_or b.current n []

abbrev pub is_free : Blocks → ℕ → Bool
is_free b n = has_bit b.free n

-- how many blocks of the pool are free; block 0 is none of them
unfoldable pub free_below : Blocks → ℕ → ℕ
free_below b zero = 0
free_below b (suc n) = (if nat_lt 0 n && is_free b n then 1 else 0) + free_below b n

abbrev pub free_count : Blocks → ℕ
free_count b = free_below b (pool_size b)

-- the pool of a file, or that of a group, by its first image block and its bytes
pub record IsFilePool (first bytes : ℕ) : Type 0 where
  pub from : FIRST_FILE_BLOCK ≤ first
  pub below : first < FIRST_FILE_BLOCK + FILE_BLOCKS * FILES
  pub own : (first - FIRST_FILE_BLOCK) % FILE_BLOCKS ≡ 0
  pub long : bytes ≡ BLOCK_BYTES * FILE_BLOCKS

pub record IsGroupPool (first bytes : ℕ) : Type 0 where
  pub from : FIRST_GROUP_BLOCK ≤ first
  pub below : first < FIRST_GROUP_BLOCK + GROUP_BLOCKS * GROUPS
  pub own : (first - FIRST_GROUP_BLOCK) % GROUP_BLOCKS ≡ 0
  pub long : bytes ≡ BLOCK_BYTES * FIRST_DATA_BLOCK

abbrev pub IsPool : ℕ → ℕ → Type 0
IsPool first bytes = IsFilePool first bytes ⊎ IsGroupPool first bytes

-- the group's number, or the file's inode number
abbrev pub owner_of : ℕ → ℕ
owner_of first =
    if nat_lt first FIRST_GROUP_BLOCK then FIRST_INODE + (first - FIRST_FILE_BLOCK) / FILE_BLOCKS else (first - FIRST_GROUP_BLOCK) / GROUP_BLOCKS

-- the first sector of a block, as the headers of tree blocks say it
abbrev pub sector_at : Blocks → ℕ → ℕ
sector_at b n = (b.first + n) * 8

-- the first n blocks of some bytes
unfoldable pub blocks_in : ℕ → List ℕ → List (List ℕ)
blocks_in zero bytes = []
blocks_in (suc n) bytes = blocks_in n bytes ++ block_of bytes n ∷ []

abbrev pub no_marks : List (List ℕ) → List Bool
no_marks blocks = replicate (length blocks) false

-- the overlay of some blocks of an image
abbrev pub opened : ℕ → List ℕ → List ℕ → Blocks
opened first bytes free =
    let blocks : List (List ℕ) = blocks_in (length bytes / BLOCK_BYTES) bytes in
    record {
      kept = blocks;
      current = blocks;
      changed = no_marks blocks;
      kept_free = free;
      free = free;
      first = first;
      owner = owner_of first;
      uuid = part 16 16 bytes;
    }

-- what is now is kept, and what was kept is back
abbrev pub all_kept : Blocks → Blocks
all_kept b = record b { kept = b.current; changed = no_marks b.current; kept_free = b.free }

abbrev pub all_dropped : Blocks → Blocks
all_dropped b = record b { current = b.kept; changed = no_marks b.kept; free = b.kept_free }

-- the pool blocks that may have changed, in rising order
abbrev pub changed_blocks : Blocks → List ℕ
changed_blocks b = marked 0 b.changed

-- whether a block is one of them
abbrev pub is_changed : Blocks → ℕ → Bool
is_changed b n = slice_index_or b.changed n false

abbrev pub ChangedAreMarked : Type 0
ChangedAreMarked = (b : Blocks) (n : ℕ) → Contains (changed_blocks b) n ↔ (is_changed b n ≡ true)

-- other bytes in a block
abbrev pub with_block : Blocks → ℕ → List ℕ → Blocks
with_block b n bytes = record b { current = slice_set b.current n bytes; changed = slice_set b.changed n true }

-- a block less that is free, and one more
abbrev pub with_taken : Blocks → ℕ → Blocks
with_taken b n = record b { free = without_bit b.free n }

abbrev pub with_given : Blocks → ℕ → Blocks
with_given b n = record b { free = with_bit b.free n }

-- no blocks, in the same place
abbrev pub emptied : Blocks → Blocks
emptied b = record b { kept = []; current = []; changed = []; kept_free = []; free = [] }

-- what is known of any overlay
pub record AreKnown (b : Blocks) : Type 0 where
  pub all : AreBlocks b
  pub whole : AreWhole b.current
  pub identified : length b.uuid ≡ UUID_BYTES
  pub small : pool_size b ≤ BLOCKS
