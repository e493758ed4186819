-- The run is taken out of its record and comes back, beside the rests alone where there are two.
use Rattle.std.proofs.Common.{false, arith}
use Rattle.xr_change.specs.TreeStepLaws.{tree_steps_follow}
use Rattle.xr_kinds.specs.Reference.{reference_form}
use Rattle.xr_refcount.specs.Marks.{shared_run}
use Rattle.xr_refcount.proofs.CallLemmas.{none_meets, other_agrees, then_sets}
use Rattle.xr_refcount.proofs.SetRunLemmas.{gained_run, set_in}
use Rattle.xr_refcount.proofs.refcount.Refcount.recount.Goals as goal

pub insert-requires-clause-fits : goal.insert-requires-clause-fits
insert-requires-clause-fits c =
    rw c.shared-new.ensures (λ x held.
    other_agrees _ c.args.run c.args.held.now.count c.args.count (c.carve.ensures.between c.if-carve.true) c.requires.other x held
    (none_meets _ c.carve.ensures.step.tree.records c.args.run (set_in _ c.args.run 1 false _ c.carve.ensures.set) x held))

pub put-requires-clause-fits : goal.put-requires-clause-fits
put-requires-clause-fits c =
    rw c.shared-new.ensures
    (none_meets _ c.carve.ensures.step.tree.records c.args.run (set_in _ c.args.run 1 false _ c.carve.ensures.set))

pub returns-then-carve-clause-step : goal.returns-then-carve-clause-step
returns-then-carve-clause-step c =
    let carved = c.if-carve.ensures in tree_steps_follow reference_form _ _ _ _ _ _ _ _ _ _ carved.step c.insert.ensures.step

pub returns-then-carve-clause-set : goal.returns-then-carve-clause-set
returns-then-carve-clause-set c =
    then_sets _ _ _ c.args.run _ _ _ _ c.carve.ensures.set
    (gained_run _ _ c.carve.ensures.step.tree.records c.insert.ensures.step.tree.records (shared_run c.args.run c.args.count)
    (rw c.shared-new.ensures at c.insert.ensures.set))

pub returns-else-carve-clause-step : goal.returns-else-carve-clause-step
returns-else-carve-clause-step c =
    let carved = c.if-carve.ensures in
    let step = tree_steps_follow reference_form _ _ _ _ _ _ _ _ _ _ carved.step c.put.ensures.step in
    record { tree = step.tree; frame = step.frame; room = omega (arith, step.room); changed = step.changed }

pub returns-else-carve-clause-set : goal.returns-else-carve-clause-set
returns-else-carve-clause-set c =
    then_sets _ _ _ c.args.run _ _ _ _ c.carve.ensures.set (rw c.shared-new.ensures at c.put.ensures.set)
