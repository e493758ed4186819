-- The rests on either side of the run stay as records.
use Rattle.std.proofs.Common.{arith}
use Rattle.xr_kinds.specs.Reference.{reference_form}
use Rattle.xr_refcount.proofs.CarveLemmas.{back_comes, back_fits, back_stays, both_stay, front_fits, front_stays, nothing_stays, only_rests}
use Rattle.xr_change.specs.TreeStepLaws.{tree_steps_follow}
use Rattle.xr_refcount.proofs.refcount.Refcount.carve.Goals as goal

pub replace-requires-clause-fits : goal.replace-requires-clause-fits
replace-requires-clause-fits c = front_fits _ c.requires.tree.records c.args.held.now c.args.run c.requires.held c.if-left-gt0.true

pub insert-requires-clause-fits : goal.insert-requires-clause-fits
insert-requires-clause-fits c =
    back_comes _ c.requires.tree.records c.args.held.now c.args.run c.requires.held _ c.replace.ensures.step.tree.records c.replace.ensures.set
    c.if-right-gt0.true

pub replace-requires-then-right-gt0-2-clause-fits : goal.replace-requires-then-right-gt0-2-clause-fits
replace-requires-then-right-gt0-2-clause-fits c =
    back_fits _ c.requires.tree.records c.args.held.now c.args.run c.requires.held c.if-right-gt0-2.true

pub returns-then-right-gt0-clause-step : goal.returns-then-right-gt0-clause-step
returns-then-right-gt0-clause-step c = tree_steps_follow reference_form _ _ _ _ _ _ _ _ _ _ c.replace.ensures.step c.insert.ensures.step

pub returns-then-right-gt0-clause-set : goal.returns-then-right-gt0-clause-set
returns-then-right-gt0-clause-set c =
    both_stay _ c.requires.tree.records c.args.held.now c.args.run c.requires.held _ c.replace.ensures.step.tree.records c.replace.ensures.set _
    c.insert.ensures.step.tree.records c.insert.ensures.set

pub returns-else-right-gt0-clause-set : goal.returns-else-right-gt0-clause-set
returns-else-right-gt0-clause-set c =
    front_stays _ c.requires.tree.records c.args.held.now c.args.run c.requires.held _ c.replace.ensures.step.tree.records c.replace.ensures.set
    (omega (arith, c.if-right-gt0.false))

pub returns-then-right-gt0-2-clause-set : goal.returns-then-right-gt0-2-clause-set
returns-then-right-gt0-2-clause-set c =
    back_stays _ c.requires.tree.records c.args.held.now c.args.run c.requires.held _ c.replace-then-right-gt0-2.ensures.step.tree.records
    c.replace-then-right-gt0-2.ensures.set (omega (arith, c.if-left-gt0.false))

pub returns-else-right-gt0-2-clause-set : goal.returns-else-right-gt0-2-clause-set
returns-else-right-gt0-2-clause-set c =
    nothing_stays _ c.requires.tree.records c.args.held.now c.args.run c.requires.held _ c.remove.ensures.step.tree.records c.remove.ensures.set
    (omega (arith, c.if-left-gt0.false)) (omega (arith, c.if-right-gt0-2.false))

pub returns-then-right-gt0-clause-between : goal.returns-then-right-gt0-clause-between
returns-then-right-gt0-clause-between c _ =
    only_rests _ c.requires.tree.records c.args.held.now c.args.run c.requires.held _ c.replace.ensures.step.tree.records c.replace.ensures.set _
    c.insert.ensures.set c.if-left-gt0.true c.if-right-gt0.true
