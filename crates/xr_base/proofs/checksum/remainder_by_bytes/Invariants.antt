use Rattle.std.proofs.Common.{◌≡◌, drop}
use Rattle.xr_base.specs.Checksum.{after_bytes}
use Rattle.xr_base.proofs.checksum.remainder_by_bytes.Given as goal

abbrev pub invariant-loop-byte : goal.invariant-loop-byte
invariant-loop-byte l = after_bytes l.remainder (drop l.byte-index l.bytes) ≡ after_bytes l.start l.bytes
