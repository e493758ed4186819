-- A run comes to an owner: as one with the record behind it, which is taken out first, and with the one in front of it.
use Rattle.std.proofs.Common.{refl}
use Rattle.xr_change.specs.TreeStepLaws.{tree_steps_follow}
use Rattle.xr_kinds.specs.Reverse.{reverse_form}
use Rattle.xr_rmap.proofs.JoinLemmas.{added_both, may_join, may_join_both}
use Rattle.xr_rmap.specs.Rmap.{IsOwnerRecord, owned_run}
use Rattle.xr_rmap.proofs.rmap.Rmap.add.Goals as goal

pub join-requires-clause-may : goal.join-requires-clause-may
join-requires-clause-may c =
    let left = c.left_of-left.ensures in
    may_join _ c.requires.tree.records (owned_run c.args.run c.args.owner c.args.off) c.requires.good c.requires.alone c.left_of-left.result left.none left.some
    (c.in-None.ensures.none refl)

pub join-requires-in-Some-clause-may : goal.join-requires-in-Some-clause-may
join-requires-in-Some-clause-may c =
    let left = c.left_of-left.ensures in
    let next = c.in-Some.ensures.some in
    may_join_both _ c.requires.tree.records (owned_run c.args.run c.args.owner c.args.off) c.requires.good c.requires.alone c.left_of-left.result left.none left.some
    _ c.in-Some.next next.0 next.1 c.cut.ensures.set

pub returns-in-Some-clause-step : goal.returns-in-Some-clause-step
returns-in-Some-clause-step c = tree_steps_follow reverse_form _ _ _ _ _ _ 0 3 10 10 c.cut.ensures.step c.join-in-Some.ensures.step

pub returns-in-Some-clause-added : goal.returns-in-Some-clause-added
returns-in-Some-clause-added c w o n =
    let left = c.left_of-left.ensures in
    let next = c.in-Some.ensures.some in
    added_both _ c.requires.tree.records (owned_run c.args.run c.args.owner c.args.off) c.requires.good c.requires.alone c.left_of-left.result left.none left.some
    _ c.in-Some.next next.0 next.1 c.cut.ensures.set (IsOwnerRecord c.join-in-Some.new.over c.join-in-Some.new.self) w o n (c.join-in-Some.ensures.added w o n)
