-- The three headers as bytes, and which of their values are valid.
use Rattle.std.specs.Prelude.{◌≡◌, ℕ, ◌+◌, ◌^◌, ◌%◌, ◌<◌, ◌≤◌, List, [], ◌∷◌, ◌++◌, length, slice_index}
use Rattle.std.specs.List.{All}
use Rattle.byteorder.specs.Endian.{big_bytes}
use Rattle.xr_base.specs.Image.{part}
use Rattle.xr_base.specs.declared.address.GroupNo.{GroupNo}
use Rattle.xr_base.specs.declared.geometry.TheConstants.{BLOCK_BYTES, BLOCKS, FIRST_LOG_BLOCK, LOG_SECTORS, FILES, FIRST_FILE_BLOCK, FILE_BLOCKS, FIRST_INODE, GROUPS, FIRST_GROUP_BLOCK, GROUP_BLOCKS, FIRST_DATA_BLOCK, UUID_BYTES}
use Rattle.xr_headers.specs.declared.layout.TheConstants.{SUPER_MAGIC, GROUP_MAGIC, CORE_MAGIC, VERSION, BLOCK_CRC, CORE_CRC, CORE_BYTES, CORE_ROOT_PLACE, UUID_PLACE, ROOTS_PLACE, LEVELS_PLACE, FREE_MAP_PLACE, FREE_MAP_BYTES}
use Rattle.xr_headers.specs.declared.superblock.Super.{Super}
use Rattle.xr_headers.specs.declared.group_head.GroupHead.{GroupHead}
use Rattle.xr_headers.specs.declared.file_core.Core.{Core}
use Rattle.xr_headers.specs.Padded.{numbers_in, words, zero_padded}
use Rattle.xr_base.specs.Checksum.{with_crc}

-- a superblock's identifier has all its bytes
pub record IsSuper (s : Super) : Type 0 where
  pub uuid : length s.uuid ≡ UUID_BYTES

-- what a superblock holds before its checksum: the identifier among the image's fixed numbers
abbrev pub super_opening : List ℕ
super_opening = words (SUPER_MAGIC ∷ VERSION ∷ BLOCK_BYTES ∷ BLOCKS ∷ [])

abbrev pub super_geometry : List ℕ
super_geometry =
    words (FIRST_LOG_BLOCK ∷ LOG_SECTORS ∷ FILES ∷ FIRST_FILE_BLOCK ∷ GROUPS ∷ FIRST_GROUP_BLOCK ∷ GROUP_BLOCKS ∷ FIRST_DATA_BLOCK ∷ [])

unfoldable pub super_fields : Super → List ℕ
super_fields s = super_opening ++ s.uuid ++ super_geometry

-- the value that the fields of some bytes hold
abbrev pub super_in : List ℕ → Super
super_in bytes = record { uuid = part UUID_PLACE UUID_BYTES bytes }

-- the block of a superblock
abbrev pub super_block : Super → List ℕ
super_block s = with_crc BLOCK_CRC (zero_padded BLOCK_BYTES (super_fields s))

-- numbers of 32 bits
abbrev pub AreWords : List ℕ → Type 0
AreWords numbers = All (λ (number : ℕ). number < 2 ^ 32) numbers

-- a block of a group's pool
abbrev pub IsPoolRoot : ℕ → Type 0
IsPoolRoot root = (1 ≤ root) × (root < FIRST_DATA_BLOCK)

-- the roots stand in the group's pool, and the header's own block isn't free
pub record KeepsPool (head : GroupHead) : Type 0 where
  pub roots : (i : ℕ) → i < length head.roots → IsPoolRoot (slice_index head.roots i)
  pub own_block : slice_index head.free 0 % 2 ≡ 0

-- a header of one of the groups, with four roots, their levels, and a map of all blocks of the pool
pub record IsGroupHead (head : GroupHead) : Type 0 where
  pub group : head.group.0 < GROUPS
  pub four_roots : length head.roots ≡ 4
  pub pool : KeepsPool head
  pub four_levels : length head.levels ≡ 4
  pub levels : AreWords head.levels
  pub map_bytes : length head.free ≡ FREE_MAP_BYTES

-- what a group header holds before its checksum
abbrev pub group_opening : GroupHead → List ℕ
group_opening head = words (GROUP_MAGIC ∷ VERSION ∷ head.group.0 ∷ 0 ∷ [])

unfoldable pub group_fields : GroupHead → List ℕ
group_fields head = group_opening head ++ head.uuid ++ words head.roots ++ words head.levels ++ head.free

abbrev pub group_in : List ℕ → GroupNo → List ℕ → GroupHead
group_in bytes group uuid = record {
  group = group;
  uuid = uuid;
  roots = numbers_in 4 (part ROOTS_PLACE 16 bytes);
  levels = numbers_in 4 (part LEVELS_PLACE 16 bytes);
  free = part FREE_MAP_PLACE FREE_MAP_BYTES bytes;
}

-- the block of a group header
abbrev pub group_block : GroupHead → List ℕ
group_block head = with_crc BLOCK_CRC (zero_padded BLOCK_BYTES (group_fields head))

-- the root stands in the file's pool, and the mask has bits for blocks of the pool alone
pub record KeepsFilePool (core : Core) : Type 0 where
  pub some_root : 1 ≤ core.root
  pub root_in_pool : core.root < FILE_BLOCKS
  pub mask : core.free < 2 ^ FILE_BLOCKS
  pub own_block : core.free % 2 ≡ 0

-- a core of one of the files
pub record IsCore (core : Core) : Type 0 where
  pub first_inode : FIRST_INODE ≤ core.ino
  pub last_inode : core.ino < FIRST_INODE + FILES
  pub pool : KeepsFilePool core
  pub level : core.level < 2 ^ 32

-- what a file core holds before its checksum
abbrev pub core_numbers : Core → List ℕ
core_numbers core = core.root ∷ core.level ∷ core.free ∷ []

unfoldable pub core_fields : Core → List ℕ
core_fields core = words (CORE_MAGIC ∷ VERSION ∷ []) ++ big_bytes 8 core.ino ++ core.uuid ++ words (core_numbers core)

abbrev pub core_in : List ℕ → ℕ → List ℕ → Core
core_in bytes file uuid =
    let numbers : List ℕ = numbers_in 3 (part CORE_ROOT_PLACE 12 bytes) in
    record {
      ino = FIRST_INODE + file;
      uuid = uuid;
      root = slice_index numbers 0;
      level = slice_index numbers 1;
      free = slice_index numbers 2;
    }

-- the bytes of a file core with its checksum
abbrev pub core_bytes : Core → List ℕ
core_bytes core = with_crc CORE_CRC (zero_padded CORE_BYTES (core_fields core))

-- the block of a file core
abbrev pub core_block : Core → List ℕ
core_block core = zero_padded BLOCK_BYTES (core_bytes core)
