-- The numbers of operations that every log rests on, each as the number that it is.
use Rattle.std.specs.Prelude.{◌≡◌, length}
use Rattle.xr_record.specs.declared.layout.TheConstants.{MOST_REGION_BYTES, OPERATION_BYTES, TRANSACTION_HEADER_BYTES, TRANSACTION_MAGIC, TRANSACTION_TYPE, UNMOUNT_BODY_BYTES}
use Rattle.xr_record.specs.Operations.{operation_bytes}
use Rattle.xr_record.specs.Stream.{unmount}

pub record AreOperationLimits : Type 0 where
  pub operation_header : OPERATION_BYTES ≡ 12
  pub longest_region : MOST_REGION_BYTES ≡ 4096
  pub transaction_header : TRANSACTION_HEADER_BYTES ≡ 16
  pub transaction_magic : TRANSACTION_MAGIC ≡ 0x5452_414E
  pub transaction_type : TRANSACTION_TYPE ≡ 40
  pub unmount_body : UNMOUNT_BODY_BYTES ≡ 8
  pub unmount_bytes : length (operation_bytes unmount) ≡ 20
