-- A record comes in by itself, or as one with another.
use Rattle.xr_refcount.proofs.JoinLemmas.{joined_fits, joined_run}
use Rattle.xr_refcount.proofs.SetRunLemmas.{gained_run}
use Rattle.xr_refcount.proofs.refcount.Refcount.join.Goals as goal

pub replace-requires-clause-fits : goal.replace-requires-clause-fits
replace-requires-clause-fits c =
    joined_fits _ c.requires.tree.records c.args.new c.in-Some.other (rw c.in-Some.is at c.requires.loose) c.min.result c.min.ensures

pub returns-in-None-clause-set : goal.returns-in-None-clause-set
returns-in-None-clause-set c =
    gained_run _ _ c.requires.tree.records c.insert.ensures.step.tree.records c.args.new c.insert.ensures.set

pub returns-in-Some-clause-set : goal.returns-in-Some-clause-set
returns-in-Some-clause-set c =
    joined_run _ c.requires.tree.records c.args.new c.in-Some.other (rw c.in-Some.is at c.requires.loose) c.min.result c.min.ensures _
    c.replace.ensures.step.tree.records c.replace.ensures.set
