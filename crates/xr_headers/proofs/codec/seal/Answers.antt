use Rattle.xr_headers.proofs.codec.seal.Goals as goal
use Rattle.std.proofs.Common.{refl}
use Rattle.xr_base.specs.Checksum.{with_crc}

pub returns : goal.returns
unfolding with_crc
returns c = rw c.put_bytes.ensures (rw c.sum_bytes-sum.ensures refl)
