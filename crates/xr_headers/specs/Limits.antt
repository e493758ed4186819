-- The numbers of headers that users are promised, each as the number that it is.
use Rattle.std.specs.Prelude.{◌≡◌}
use Rattle.xr_headers.specs.declared.layout.TheConstants.{BLOCK_CRC, CORE_BYTES, CORE_CRC, FREE_MAP_BYTES, UNMOUNT_BYTES, UUID_PLACE, VERSION}

pub record AreHeaderLimits : Type 0 where
  pub version : VERSION ≡ 1
  pub uuid_place : UUID_PLACE ≡ 16
  pub block_checksum : BLOCK_CRC ≡ 4092
  pub map_bytes : FREE_MAP_BYTES ≡ 64
  pub core_bytes : CORE_BYTES ≡ 64
  pub core_checksum : CORE_CRC ≡ 60
  pub unmount_bytes : UNMOUNT_BYTES ≡ 20
