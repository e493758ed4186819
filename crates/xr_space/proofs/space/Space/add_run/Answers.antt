-- A run more in both trees.
use Rattle.xr_space.proofs.FrameLemmas.{then_step}
use Rattle.xr_space.proofs.PairLemmas.{gain_pairs}
use Rattle.xr_space.proofs.space.Space.add_run.Goals as goal

pub returns-clause-step : goal.returns-clause-step
returns-clause-step c = then_step c.insert_by_block.ensures.step c.insert_by_size.ensures.step

pub returns-clause-set : goal.returns-clause-set
returns-clause-set c = rw c.insert_by_size.ensures.blocks c.insert_by_block.ensures.set

pub returns-clause-paired : goal.returns-clause-paired
returns-clause-paired c =
    gain_pairs _ _ _ _ c.requires.paired c.args.run
    (rw c.insert_by_size.ensures.blocks c.insert_by_block.ensures.set) (rw c.insert_by_block.ensures.sizes at c.insert_by_size.ensures.set)
