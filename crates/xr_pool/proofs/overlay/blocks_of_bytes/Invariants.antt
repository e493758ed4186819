use Rattle.std.proofs.Common.{◌≡◌}
use Rattle.xr_pool.specs.Overlay.{blocks_in}
use Rattle.xr_pool.proofs.overlay.blocks_of_bytes.Given as goal

abbrev pub invariant-loop-n : goal.invariant-loop-n
invariant-loop-n l = l.blocks.items ≡ blocks_in l.n l.bytes
