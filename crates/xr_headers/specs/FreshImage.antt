-- The image that formatting makes, block by block.
use Rattle.std.specs.Prelude.{ℕ, ◌+◌, ◌-◌, ◌*◌, ◌/◌, ◌%◌, ◌^◌, ◌==◌, nat_lt, if◌then◌else◌, List, [], ◌∷◌, ◌++◌, length, replicate}
use Rattle.byteorder.specs.Endian.{big_bytes}
use Rattle.xr_base.specs.Image.{blocks_below}
use Rattle.xr_base.specs.declared.geometry.TheConstants.{BLOCK_BYTES, SECTOR_BYTES, BLOCKS, FIRST_LOG_BLOCK, FIRST_FILE_BLOCK, FILE_BLOCKS, FIRST_INODE, FIRST_GROUP_BLOCK, GROUP_BLOCKS, FIRST_DATA_BLOCK, DATA_BLOCKS, BLOCK_SECTORS}
use Rattle.xr_headers.specs.declared.layout.TheConstants.{MISSING, UNMOUNT_BYTES, UNMOUNT_CLIENT, UNMOUNT_DATA, UNMOUNT_MAGIC}
use Rattle.xr_base.specs.declared.layout.TheConstants.{LONG_BB_CRC, SHORT_BB_CRC, MAPPING_MAGIC, REFERENCE_MAGIC, REVERSE_MAGIC, BY_SIZE_MAGIC, BY_BLOCK_MAGIC, MAX_BODY_BYTES, RECORD_CRC_PLACE, RECORD_FORMAT, RECORD_VERSION, RECORD_MAGIC}
use Rattle.xr_headers.specs.declared.group_head.GroupHead.{GroupHead}
use Rattle.xr_headers.specs.declared.file_core.Core.{Core}
use Rattle.xr_headers.specs.Headers.{super_block, group_block, core_block}
use Rattle.xr_headers.specs.Padded.{words, zero_padded}
use Rattle.xr_base.specs.Checksum.{with_crc}

-- a block of zeros
abbrev pub zero_block : List ℕ
zero_block = zero_padded BLOCK_BYTES []

-- the sector where an image block begins
abbrev pub first_sector_of : ℕ → ℕ
first_sector_of block = block * BLOCK_SECTORS

-- how the log's one record begins
abbrev pub record_opening : ℕ → List ℕ
record_opening cycle = words (RECORD_MAGIC ∷ cycle ∷ RECORD_VERSION ∷ UNMOUNT_BYTES ∷ [])

-- the log sequence number of sector 0
abbrev pub first_lsn : ℕ → List ℕ
first_lsn cycle = big_bytes 8 (cycle * 2 ^ 32)

-- the record's one operation, with the cycle in place of its first word
abbrev pub stamped_unmount : ℕ → List ℕ
stamped_unmount cycle = words (cycle ∷ UNMOUNT_DATA ∷ UNMOUNT_CLIENT ∷ UNMOUNT_MAGIC ∷ 0 ∷ [])

-- the record says that the log is at rest, is its own tail, and has no record before it. The first word of its body,
-- which is zero, is the first of the 64 that the header keeps.
unfoldable pub unmount_fields : List ℕ → ℕ → List ℕ
unmount_fields uuid cycle =
    record_opening cycle ++ first_lsn cycle ++ first_lsn cycle ++ words (0 ∷ MISSING ∷ 1 ∷ [])
    ++ replicate 256 0 ++ words (RECORD_FORMAT ∷ []) ++ uuid ++ words (MAX_BODY_BYTES ∷ [])
    ++ replicate 188 0 ++ stamped_unmount cycle

-- the log's first block: the record's two sectors, and zeros
abbrev pub fresh_log_block : List ℕ → ℕ → List ℕ
fresh_log_block uuid cycle = zero_padded BLOCK_BYTES (with_crc RECORD_CRC_PLACE (zero_padded (2 * SECTOR_BYTES) (unmount_fields uuid cycle)))

-- a leaf of a group's tree that is the tree's root, with at most one record of two words. Its level is zero, it has no
-- siblings, and no record of the log stands for it.
unfoldable pub short_leaf_fields : ℕ → List ℕ → List ℕ → ℕ → ℕ → List ℕ
short_leaf_fields magic numbers uuid block owner =
    words (magic ∷ []) ++ replicate 2 0 ++ big_bytes 2 (length numbers / 2) ++ words (MISSING ∷ MISSING ∷ [])
    ++ big_bytes 8 (first_sector_of block) ++ replicate 8 0 ++ uuid ++ words (owner ∷ []) ++ replicate 4 0 ++ words numbers

abbrev pub short_leaf : ℕ → List ℕ → List ℕ → ℕ → ℕ → List ℕ
short_leaf magic numbers uuid block owner = with_crc SHORT_BB_CRC (zero_padded BLOCK_BYTES (short_leaf_fields magic numbers uuid block owner))

-- an empty leaf of a file's tree that is the tree's root
unfoldable pub long_leaf_fields : List ℕ → ℕ → ℕ → List ℕ
long_leaf_fields uuid block owner =
    words (MAPPING_MAGIC ∷ 0 ∷ MISSING ∷ MISSING ∷ MISSING ∷ MISSING ∷ [])
    ++ big_bytes 8 (first_sector_of block) ++ replicate 8 0 ++ uuid ++ big_bytes 8 owner

abbrev pub long_leaf : List ℕ → ℕ → ℕ → List ℕ
long_leaf uuid block owner = with_crc LONG_BB_CRC (zero_padded BLOCK_BYTES (long_leaf_fields uuid block owner))

-- a fresh file: its core, the empty root of its tree, and free blocks
abbrev pub fresh_core : List ℕ → ℕ → Core
fresh_core uuid file = record { ino = FIRST_INODE + file; uuid = uuid; root = 1; level = 0; free = 2 ^ FILE_BLOCKS - 4 }

abbrev pub fresh_file_block : List ℕ → ℕ → ℕ → List ℕ
fresh_file_block uuid file place =
    if place == 0 then core_block (fresh_core uuid file)
    else if place == 1 then long_leaf uuid (FIRST_FILE_BLOCK + file * FILE_BLOCKS + 1) (FIRST_INODE + file)
    else zero_block

-- a fresh group: its header, in whose map the pool's blocks from 5 on are free, the roots of its four trees, and free
-- blocks. Both trees of free runs hold the run of all data blocks.
abbrev pub fresh_map : List ℕ
fresh_map = 0xE0 ∷ replicate 63 0xFF

abbrev pub fresh_head : List ℕ → ℕ → GroupHead
fresh_head uuid group = record {
  group = record { 0 = group };
  uuid = uuid;
  roots = 1 ∷ 2 ∷ 3 ∷ 4 ∷ [];
  levels = replicate 4 0;
  free = fresh_map;
}

abbrev pub whole_data : List ℕ
whole_data = FIRST_DATA_BLOCK ∷ DATA_BLOCKS ∷ []

abbrev pub fresh_leaf : List ℕ → ℕ → ℕ → ℕ → List ℕ → List ℕ
fresh_leaf uuid group place magic numbers = short_leaf magic numbers uuid (FIRST_GROUP_BLOCK + group * GROUP_BLOCKS + place) group

abbrev pub fresh_group_block : List ℕ → ℕ → ℕ → List ℕ
fresh_group_block uuid group place =
    if place == 0 then group_block (fresh_head uuid group)
    else if place == 1 then fresh_leaf uuid group place BY_BLOCK_MAGIC whole_data
    else if place == 2 then fresh_leaf uuid group place BY_SIZE_MAGIC whole_data
    else if place == 3 then fresh_leaf uuid group place REVERSE_MAGIC []
    else if place == 4 then fresh_leaf uuid group place REFERENCE_MAGIC []
    else zero_block

-- the superblock, the log's first block, and zeros up to the first file
abbrev pub fresh_front_block : List ℕ → ℕ → ℕ → List ℕ
fresh_front_block uuid cycle n =
    if n == 0 then super_block (record { uuid = uuid })
    else if n == FIRST_LOG_BLOCK then fresh_log_block uuid cycle
    else zero_block

-- the block of a fresh image with a number
unfoldable pub fresh_block_of : List ℕ → ℕ → ℕ → List ℕ
fresh_block_of uuid cycle n =
    if nat_lt n FIRST_FILE_BLOCK then fresh_front_block uuid cycle n
    else if nat_lt n FIRST_GROUP_BLOCK then fresh_file_block uuid ((n - FIRST_FILE_BLOCK) / FILE_BLOCKS) ((n - FIRST_FILE_BLOCK) % FILE_BLOCKS)
    else fresh_group_block uuid ((n - FIRST_GROUP_BLOCK) / GROUP_BLOCKS) ((n - FIRST_GROUP_BLOCK) % GROUP_BLOCKS)

-- the whole image
unfoldable pub fresh_image : List ℕ → ℕ → List ℕ
fresh_image uuid cycle = blocks_below (fresh_block_of uuid cycle) BLOCKS
