-- No record meets the run.
use Rattle.xr_refcount.proofs.CallLemmas.{none_meets}
use Rattle.xr_refcount.proofs.refcount.Refcount.stage.Goals as goal

pub put-requires-clause-fits : goal.put-requires-clause-fits
put-requires-clause-fits c = none_meets _ c.requires.tree.records c.args.run c.requires.alone
