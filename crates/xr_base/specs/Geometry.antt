-- The numbers of an image's layout, apart from the constants that name them.
use Rattle.std.specs.Prelude.{◌≡◌, ◌-◌, ◌^◌}
use Rattle.xr_base.specs.declared.geometry.TheConstants.{BLOCK_BYTES, SECTOR_BYTES, BLOCK_SECTORS, UUID_BYTES, BLOCKS, SECTORS, FIRST_LOG_BLOCK, LOG_SECTORS, CYCLES, FILES, FIRST_FILE_BLOCK, FILE_BLOCKS, OFFSETS, FIRST_INODE, OWN_COW, GROUPS, FIRST_GROUP_BLOCK, GROUP_BLOCKS, FIRST_DATA_BLOCK, DATA_BLOCKS}

-- what an image, its log, its files and its groups measure
pub record HasGeometry : Type 0 where
  pub block_bytes : BLOCK_BYTES ≡ 4096
  pub sector_bytes : SECTOR_BYTES ≡ 512
  pub block_sectors : BLOCK_SECTORS ≡ 8
  pub identifier_bytes : UUID_BYTES ≡ 16
  pub blocks : BLOCKS ≡ 8968
  pub sectors : SECTORS ≡ 71744
  pub first_log_block : FIRST_LOG_BLOCK ≡ 8
  pub log_sectors : LOG_SECTORS ≡ 4096
  pub cycles : CYCLES ≡ 4000000000
  pub files : FILES ≡ 32
  pub first_file_block : FIRST_FILE_BLOCK ≡ 520
  pub file_blocks : FILE_BLOCKS ≡ 8
  pub offsets : OFFSETS ≡ 512
  pub first_inode : FIRST_INODE ≡ 128
  pub staged_owner : OWN_COW ≡ 2 ^ 64 - 9
  pub groups : GROUPS ≡ 4
  pub first_group_block : FIRST_GROUP_BLOCK ≡ 776
  pub group_blocks : GROUP_BLOCKS ≡ 2048
  pub first_data_block : FIRST_DATA_BLOCK ≡ 512
  pub data_blocks : DATA_BLOCKS ≡ 1536
