use Rattle.std.proofs.Common.{◌≡◌, ◌-◌, ◌≤◌, length, drop}
use Rattle.xr_base.specs.Checksum.{after_bytes}
use Rattle.xr_base.proofs.checksum.remainder_over.Given as goal

abbrev pub invariant-loop-at : goal.invariant-loop-at
invariant-loop-at l = record {
  within : l.at ≤ length l.bytes;
  same : after_bytes l.remainder (drop l.at l.bytes) ≡ after_bytes l.start l.bytes;
}

abbrev pub decreases-loop-at : goal.decreases-loop-at
decreases-loop-at l = length l.bytes - l.at
