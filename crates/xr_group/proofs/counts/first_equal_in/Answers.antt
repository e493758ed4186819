-- The part of the tree's blocks is one of addresses.
use Rattle.xr_group.proofs.CountLemmas.{first_part_read}
use Rattle.xr_group.proofs.counts.first_equal_in.Goals as goal

pub returns : goal.returns
returns c =
    first_part_read c.args.run.now c.args.over.now c.args.trees.now c.requires.group c.requires.run c.first_equal-part.result
    (rw c.group_span.ensures.is at c.first_equal-part.ensures)
