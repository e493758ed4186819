-- The record that holds the block behind starts there.
use Rattle.xr_refcount.proofs.JoinLemmas.{found_behind}
use Rattle.xr_refcount.proofs.refcount.Refcount.right_of.Goals as goal

pub returns-then-end-lt-GROUP_BLOCKS-clause-some : goal.returns-then-end-lt-GROUP_BLOCKS-clause-some
returns-then-end-lt-GROUP_BLOCKS-clause-some c =
    found_behind _ c.requires.tree.records c.args.new.now c.requires.good c.requires.fits c.record_beside.result c.record_beside.ensures.some
