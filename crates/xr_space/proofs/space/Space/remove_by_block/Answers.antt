-- A run is a record less by block.
use Rattle.std.proofs.Common.{refl, arith}
use Rattle.xr_kinds.specs.FreeRuns.{block_form, block_span, by_block}
use Rattle.xr_space.proofs.FrameLemmas.{block_step, sizes_stay}
use Rattle.xr_space.proofs.RunRecordLemmas.{by_block_runs}
use Rattle.xr_space.proofs.RunSetLemmas.{loses}
use Rattle.xr_space.proofs.space.Space.remove_by_block.Goals as goal

pub returns-clause-step : goal.returns-clause-step
returns-clause-step c =
    block_step _ _ _ c.remove.new.self c.requires.space _ c.remove.ensures.step 0 (omega (arith, c.remove.ensures.room))

pub returns-clause-set : goal.returns-clause-set
returns-clause-set c =
    loses block_form block_span by_block_runs by_block (λ s. refl) _ _ _ _ c.requires.space.blocks c.args.run c.requires.held
    (rw c.from.ensures at c.remove.ensures.step)

pub returns-clause-sizes : goal.returns-clause-sizes
returns-clause-sizes c = sizes_stay _ _ _ c.remove.new.self c.requires.space _ c.remove.ensures.step
