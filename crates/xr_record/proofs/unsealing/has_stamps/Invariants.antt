use Rattle.std.proofs.Common.{◌≡◌, ◌*◌, ◌<◌, ℕ, take, drop}
use Rattle.byteorder.specs.Endian.{big_bytes}
use Rattle.xr_record.proofs.unsealing.has_stamps.Given as goal

abbrev pub invariant-loop-i : goal.invariant-loop-i
invariant-loop-i l = (k : ℕ) → k < l.i → take 4 (drop (512 * k) l.body) ≡ big_bytes 4 l.cycle
