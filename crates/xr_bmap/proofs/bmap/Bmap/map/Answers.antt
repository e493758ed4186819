-- A run is mapped as one with the extent that goes it on, which is taken out first, and with the one that it goes on.
use Rattle.std.proofs.Common.{refl}
use Rattle.xr_bmap.proofs.BesideLemmas.{may_join, may_join_both}
use Rattle.xr_bmap.proofs.MapLemmas.{mapped_both, new_extent, run_good}
use Rattle.xr_change.specs.TreeStepLaws.{tree_steps_follow}
use Rattle.xr_kinds.specs.Mapping.{mapping_form}
use Rattle.xr_bmap.proofs.bmap.Bmap.map.Goals as goal

pub left_of-left-requires-clause-good : goal.left_of-left-requires-clause-good
left_of-left-requires-clause-good c = run_good c.args.off c.args.run.now c.requires.good c.requires.within

pub right_of-requires-clause-good : goal.right_of-requires-clause-good
right_of-requires-clause-good c = run_good c.args.off c.args.run.now c.requires.good c.requires.within

pub join-requires-clause-may : goal.join-requires-clause-may
join-requires-clause-may c =
    let left = c.left_of-left.ensures in
    may_join _ c.requires.tree.records (new_extent c.args.off c.args.run.now) (run_good c.args.off c.args.run.now c.requires.good c.requires.within) c.requires.hole
    c.left_of-left.result left.none left.some (c.in-None.ensures.none refl)

pub join-requires-in-Some-clause-may : goal.join-requires-in-Some-clause-may
join-requires-in-Some-clause-may c =
    let left = c.left_of-left.ensures in
    let next = c.in-Some.ensures.some in
    may_join_both _ c.requires.tree.records (new_extent c.args.off c.args.run.now) (run_good c.args.off c.args.run.now c.requires.good c.requires.within) c.requires.hole
    c.left_of-left.result left.none left.some _ c.in-Some.next next.0 next.1 c.cut.ensures.set

pub returns-in-Some-clause-step : goal.returns-in-Some-clause-step
returns-in-Some-clause-step c = tree_steps_follow mapping_form _ _ _ _ _ _ 0 2 7 7 c.cut.ensures.step c.join-in-Some.ensures.step

pub returns-in-Some-clause-mapped : goal.returns-in-Some-clause-mapped
returns-in-Some-clause-mapped c o =
    let next = c.in-Some.ensures.some in
    mapped_both _ _ c.requires.tree.records c.cut.ensures.step.tree.records (new_extent c.args.off c.args.run.now) c.in-Some.next next.0 next.1 c.cut.ensures.set
    o _ (c.join-in-Some.ensures.mapped o)
