use Rattle.std.proofs.Common.{ℕ, ◌<◌, [], get_or}
use Rattle.xr_pool.specs.Overlay.{IsBlock}
use Rattle.xr_pool.proofs.overlay.are_whole.Given as goal

abbrev pub invariant-loop-block : goal.invariant-loop-block
invariant-loop-block l = (n : ℕ) → n < l.block-index → IsBlock (get_or l.blocks n [])
