use Rattle.std.proofs.Common.{refl}
use Rattle.xr_record.specs.OneWayLaws.{length_op}
use Rattle.xr_record.specs.Stream.{unmount}
use Rattle.xr_record.proofs.laws.operation_limits.Goals as goal

pub returns : goal.returns
returns c = record {
  operation_header = refl;
  longest_region = refl;
  transaction_header = refl;
  transaction_magic = refl;
  transaction_type = refl;
  unmount_body = refl;
  unmount_bytes = length_op unmount;
}
