-- No free run meets it.
use Rattle.xr_group.proofs.RunTestLemmas.{none_found}
use Rattle.xr_group.proofs.space.has_none_free_in.Goals as goal

pub returns : goal.returns
returns c =
    none_found c.args.over.now c.args.trees.now c.args.run c.overlap.result c.is_none.result (rw c.from.ensures at c.overlap.ensures) c.is_none.ensures
