-- A run is a record less by size.
use Rattle.std.proofs.Common.{refl, arith}
use Rattle.xr_kinds.specs.FreeRuns.{size_form, size_span, by_size}
use Rattle.xr_space.proofs.FrameLemmas.{size_step, blocks_stay}
use Rattle.xr_space.proofs.RunRecordLemmas.{by_size_runs}
use Rattle.xr_space.proofs.RunSetLemmas.{loses}
use Rattle.xr_space.proofs.space.Space.remove_by_size.Goals as goal

pub returns-clause-step : goal.returns-clause-step
returns-clause-step c =
    size_step _ _ _ c.remove.new.self c.requires.space _ c.remove.ensures.step 0 (omega (arith, c.remove.ensures.room))

pub returns-clause-set : goal.returns-clause-set
returns-clause-set c =
    loses size_form size_span by_size_runs by_size (λ s. refl) _ _ _ _ c.requires.space.sizes c.args.run c.requires.held
    (rw c.from.ensures at c.remove.ensures.step)

pub returns-clause-blocks : goal.returns-clause-blocks
returns-clause-blocks c = blocks_stay _ _ _ c.remove.new.self c.requires.space _ c.remove.ensures.step
