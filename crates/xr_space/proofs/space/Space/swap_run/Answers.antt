-- A run in the place of another in both trees.
use Rattle.xr_space.specs.Space.{IsRunBySize}
use Rattle.xr_space.proofs.FrameLemmas.{then_step}
use Rattle.xr_space.proofs.PairLemmas.{lose_gain, swap_pairs}
use Rattle.xr_space.proofs.space.Space.swap_run.Goals as goal

pub remove_by_size-requires-clause-held : goal.remove_by_size-requires-clause-held
remove_by_size-requires-clause-held c = rw c.replace_by_block.ensures.sizes (c.requires.paired.sized c.args.old c.requires.held)

pub insert_by_size-requires-clause-fits : goal.insert_by_size-requires-clause-fits
insert_by_size-requires-clause-fits c other within =
    let kept = (rw c.replace_by_block.ensures.sizes at (c.remove_by_size.ensures.set other).0) within in
    c.requires.fits other (c.requires.paired.free other kept.1) kept.0

pub returns-clause-step : goal.returns-clause-step
returns-clause-step c =
    then_step c.replace_by_block.ensures.step (then_step c.remove_by_size.ensures.step c.insert_by_size.ensures.step)

pub returns-clause-set : goal.returns-clause-set
returns-clause-set c = rw (c.insert_by_size.ensures.blocks, c.remove_by_size.ensures.blocks) c.replace_by_block.ensures.set

pub returns-clause-paired : goal.returns-clause-paired
returns-clause-paired c =
    swap_pairs _ _ _ _ c.requires.paired c.args.old c.args.new
    (rw (c.insert_by_size.ensures.blocks, c.remove_by_size.ensures.blocks) c.replace_by_block.ensures.set)
    (lose_gain (IsRunBySize c.args.over.now c.args.self.now) _ (IsRunBySize c.insert_by_size.new.over c.insert_by_size.new.self) c.args.old c.args.new
    (rw c.replace_by_block.ensures.sizes at c.remove_by_size.ensures.set) c.insert_by_size.ensures.set)
