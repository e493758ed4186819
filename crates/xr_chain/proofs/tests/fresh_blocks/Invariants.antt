use Rattle.std.proofs.Common.{◌≡◌, ◌*◌, vec_len}
use Rattle.xr_base.specs.declared.geometry.TheConstants.{BLOCK_BYTES}
use Rattle.xr_chain.proofs.tests.fresh_blocks.Given as goal

abbrev pub invariant-loop-n : goal.invariant-loop-n
invariant-loop-n g l = vec_len l.bytes ≡ l.count * BLOCK_BYTES
