use Rattle.xr_pool.specs.OverlayLaws.{blocks_lent}
use Rattle.xr_pool.proofs.overlay.Overlay.block_mut.Goals as goal

pub invariant_of-self-lent : goal.invariant_of-self-lent
invariant_of-self-lent c = λ w. blocks_lent _ c.args.n w c.self.invariant
