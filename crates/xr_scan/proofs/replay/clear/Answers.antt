use Rattle.std.proofs.Common.{ℕ, ◌<◌, length, arith}
use Rattle.xr_headers.specs.PaddingLaws.{zeros_are}
use Rattle.xr_scan.proofs.replay.clear.Goals as goal

pub returns : goal.returns
returns c =
    zeros_are (length c.args.out.now) c.loop-byte.out (omega arith)
    (λ (k : ℕ) (below : k < length c.args.out.now). c.loop-byte.invariant k (omega arith))
