use Rattle.std.proofs.Common.{add-one, refl}
use Rattle.xr_pool.specs.Overlay.{blocks_in}
use Rattle.xr_pool.proofs.overlay.blocks_of_bytes.Goals as goal

pub loop-n-init : goal.loop-n-init
unfolding blocks_in
loop-n-init c = c.in_ok-blocks.ensures.items

pub loop-n-preserved : goal.loop-n-preserved
unfolding blocks_in
loop-n-preserved c = rw (add-one c.loop-n.n, c.in_ok-push.ensures.items, c.loop-n.invariant, c.block_in.ensures) refl
