-- Each header is as long as its block.
use Rattle.std.proofs.Common.{◌≡◌, length, arith}
use Rattle.xr_base.specs.declared.geometry.TheConstants.{BLOCK_BYTES}
use Rattle.xr_headers.specs.declared.superblock.Super.{Super}
use Rattle.xr_headers.specs.declared.group_head.GroupHead.{GroupHead}
use Rattle.xr_headers.specs.declared.file_core.Core.{Core}
use Rattle.xr_headers.specs.declared.layout.TheConstants.{BLOCK_CRC, CORE_BYTES, CORE_CRC}
use Rattle.xr_headers.specs.PaddedLaws.{length-zero_padded, length-with_crc_padded}
use Rattle.xr_headers.specs.Headers.{super_block, super_fields, group_block, group_fields, core_bytes, core_fields, core_block}

pub length-super_block : (s : Super) → length (super_block s) ≡ BLOCK_BYTES
length-super_block s = length-with_crc_padded BLOCK_CRC BLOCK_BYTES (super_fields s) (omega arith)

pub length-group_block : (head : GroupHead) → length (group_block head) ≡ BLOCK_BYTES
length-group_block head = length-with_crc_padded BLOCK_CRC BLOCK_BYTES (group_fields head) (omega arith)

pub length-core_bytes : (core : Core) → length (core_bytes core) ≡ CORE_BYTES
length-core_bytes core = length-with_crc_padded CORE_CRC CORE_BYTES (core_fields core) (omega arith)

pub length-core_block : (core : Core) → length (core_block core) ≡ BLOCK_BYTES
length-core_block core = length-zero_padded BLOCK_BYTES (core_bytes core)
