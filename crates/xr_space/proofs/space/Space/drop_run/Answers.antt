-- A run less in both trees.
use Rattle.xr_space.proofs.FrameLemmas.{then_step}
use Rattle.xr_space.proofs.PairLemmas.{lose_pairs}
use Rattle.xr_space.proofs.space.Space.drop_run.Goals as goal

pub remove_by_size-requires-clause-held : goal.remove_by_size-requires-clause-held
remove_by_size-requires-clause-held c = rw c.remove_by_block.ensures.sizes (c.requires.paired.sized c.args.run c.requires.held)

pub returns-clause-step : goal.returns-clause-step
returns-clause-step c = then_step c.remove_by_block.ensures.step c.remove_by_size.ensures.step

pub returns-clause-set : goal.returns-clause-set
returns-clause-set c = rw c.remove_by_size.ensures.blocks c.remove_by_block.ensures.set

pub returns-clause-paired : goal.returns-clause-paired
returns-clause-paired c =
    lose_pairs _ _ _ _ c.requires.paired c.args.run
    (rw c.remove_by_size.ensures.blocks c.remove_by_block.ensures.set) (rw c.remove_by_block.ensures.sizes at c.remove_by_size.ensures.set)
