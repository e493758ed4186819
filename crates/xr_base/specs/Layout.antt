-- The numbers of formats that more than one crate has, apart from the constants that name them.
use Rattle.std.specs.Prelude.{◌≡◌}
use Rattle.xr_base.specs.declared.layout.TheConstants.{RECORD_MAGIC, RECORD_VERSION, RECORD_FORMAT, MAX_BODY_BYTES, RECORD_LSN_PLACE, RECORD_TAIL_PLACE, RECORD_CRC_PLACE, RECORD_FORMAT_PLACE, RECORD_UUID_PLACE, RECORD_SIZE_PLACE, BY_BLOCK_MAGIC, BY_SIZE_MAGIC, REVERSE_MAGIC, REFERENCE_MAGIC, MAPPING_MAGIC, BB_LEVEL, BB_NUMRECS, BB_LEFTSIB, BB_BLKNO_BYTES, BB_LSN_BYTES, SHORT_POINTER_BYTES, LONG_POINTER_BYTES, SHORT_BB_CRC, LONG_BB_CRC, SHORT_HEADER_BYTES, LONG_HEADER_BYTES}

-- what the header of each record of the log says, and where its fields stand that are written for a fresh log, too
pub record HasRecordLayout : Type 0 where
  pub magic : RECORD_MAGIC ≡ 0xFEEDBABE
  pub version : RECORD_VERSION ≡ 2
  pub format : RECORD_FORMAT ≡ 1
  pub most_body_bytes : MAX_BODY_BYTES ≡ 32768
  pub lsn : RECORD_LSN_PLACE ≡ 16
  pub tail : RECORD_TAIL_PLACE ≡ 24
  pub checksum : RECORD_CRC_PLACE ≡ 32
  pub format_place : RECORD_FORMAT_PLACE ≡ 300
  pub identifier : RECORD_UUID_PLACE ≡ 304
  pub size : RECORD_SIZE_PLACE ≡ 320

-- how the blocks of the five kinds of trees begin, and where the fields of their headers stand
pub record HasTreeLayout : Type 0 where
  pub by_block_magic : BY_BLOCK_MAGIC ≡ 0x41423342
  pub by_size_magic : BY_SIZE_MAGIC ≡ 0x41423343
  pub reverse_magic : REVERSE_MAGIC ≡ 0x524D4233
  pub reference_magic : REFERENCE_MAGIC ≡ 0x52334643
  pub mapping_magic : MAPPING_MAGIC ≡ 0x424D4133
  pub level : BB_LEVEL ≡ 4
  pub records : BB_NUMRECS ≡ 6
  pub left_sibling : BB_LEFTSIB ≡ 8
  pub own_place_bytes : BB_BLKNO_BYTES ≡ 8
  pub lsn_bytes : BB_LSN_BYTES ≡ 8
  pub short_pointer_bytes : SHORT_POINTER_BYTES ≡ 4
  pub long_pointer_bytes : LONG_POINTER_BYTES ≡ 8
  pub short_checksum : SHORT_BB_CRC ≡ 52
  pub long_checksum : LONG_BB_CRC ≡ 64
  pub short_bytes : SHORT_HEADER_BYTES ≡ 56
  pub long_bytes : LONG_HEADER_BYTES ≡ 72
