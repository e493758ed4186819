-- The record that holds the block in front ends there.
use Rattle.xr_refcount.proofs.JoinLemmas.{found_in_front}
use Rattle.xr_refcount.proofs.refcount.Refcount.left_of.Goals as goal

pub returns-then-new-gt-FIRST_DATA_BLOCK-clause-some : goal.returns-then-new-gt-FIRST_DATA_BLOCK-clause-some
returns-then-new-gt-FIRST_DATA_BLOCK-clause-some c =
    found_in_front _ c.requires.tree.records c.args.new.now c.requires.good c.requires.fits c.record_beside.result c.record_beside.ensures.some
