-- A new record becomes one with those beside it. Where there are two, the one behind is taken out first.
use Rattle.std.proofs.Common.{ap}
use Rattle.std.specs.Option.{is_some}
use Rattle.xr_change.specs.TreeStepLaws.{tree_steps_follow}
use Rattle.xr_kinds.specs.Reference.{reference_form}
use Rattle.xr_refcount.proofs.JoinLemmas.{both_run, joins_both, joins_left, joins_right}
use Rattle.xr_refcount.proofs.refcount.Refcount.put.Goals as goal

pub join-requires-clause-loose : goal.join-requires-clause-loose
join-requires-clause-loose c =
    let left = rw c.in-Some-Some.is-0 at c.left_of-left.ensures.some in
    let right = rw c.in-Some-Some.is-1 at c.right_of-right.ensures.some in
    rw c.in-Some-Some.is-0
    (joins_both _ _ c.requires.tree.records c.remove.ensures.step.tree.records c.args.new _ c.in-Some-Some.next c.requires.good c.requires.fits
    left right c.remove.ensures.set)

pub join-requires-in-Some-None-clause-loose : goal.join-requires-in-Some-None-clause-loose
join-requires-in-Some-None-clause-loose c =
    let left = rw c.in-Some-None.is-0 at c.left_of-left.ensures.some in
    rw c.in-Some-None.is-0
    (joins_left _ c.requires.tree.records c.args.new c.requires.good c.requires.fits _ left
    (c.right_of-right.ensures.none (ap is_some c.in-Some-None.is-1)))

pub join-requires-in-None-default-clause-loose : goal.join-requires-in-None-default-clause-loose
join-requires-in-None-default-clause-loose c =
    joins_right _ c.requires.tree.records c.args.new c.requires.good c.requires.fits c.right_of-right.result
    (c.left_of-left.ensures.none (ap is_some c.in-None-default.is-0)) c.right_of-right.ensures.none c.right_of-right.ensures.some

pub returns-in-Some-Some-clause-step : goal.returns-in-Some-Some-clause-step
returns-in-Some-Some-clause-step c = tree_steps_follow reference_form _ _ _ _ _ _ _ _ _ _ c.remove.ensures.step c.join.ensures.step

pub returns-in-Some-Some-clause-set : goal.returns-in-Some-Some-clause-set
returns-in-Some-Some-clause-set c =
    let left = rw c.in-Some-Some.is-0 at c.left_of-left.ensures.some in
    let right = rw c.in-Some-Some.is-1 at c.right_of-right.ensures.some in
    both_run _ _ c.requires.tree.records c.remove.ensures.step.tree.records c.args.new _ c.in-Some-Some.next c.requires.good c.requires.fits
    left right c.remove.ensures.set _ c.join.ensures.set
