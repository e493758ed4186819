-- A run that is given back becomes one with the free runs beside it: the one after it is taken out first, where there are two.
use Rattle.std.proofs.Common.{ap}
use Rattle.std.specs.Option.{is_some}
use Rattle.xr_space.specs.Space.{IsFreeRun}
use Rattle.xr_space.proofs.FreeSetLemmas.{are_runs}
use Rattle.xr_space.proofs.FrameLemmas.{then_step}
use Rattle.xr_space.proofs.JoinLemmas.{given_both, loose_both, loose_left, loose_right}
use Rattle.xr_space.proofs.space.Space.give.Goals as goal

pub join-requires-clause-loose : goal.join-requires-clause-loose
join-requires-clause-loose c =
    let left = rw c.in-Some-Some.is-0 at c.left_of-left.ensures.some in
    let right = rw c.in-Some-Some.is-1 at c.right_of-right.ensures.some in
    rw c.in-Some-Some.is-0
    (loose_both _ _ c.args.run _ c.in-Some-Some.next (are_runs _ _ c.requires.space) (are_runs _ _ c.drop_run.ensures.step.space) c.requires.good
    c.requires.taken left.0 left.1 right.0 right.1 c.drop_run.ensures.set)

pub join-requires-in-Some-None-clause-loose : goal.join-requires-in-Some-None-clause-loose
join-requires-in-Some-None-clause-loose c =
    let left = rw c.in-Some-None.is-0 at c.left_of-left.ensures.some in
    rw c.in-Some-None.is-0
    (loose_left _ c.args.run _ (are_runs _ _ c.requires.space) c.requires.good (λ n x within held inside. c.requires.taken n within (x, held, inside))
    (c.right_of-right.ensures.none (ap is_some c.in-Some-None.is-1)) left.0 left.1)

pub join-requires-in-None-default-clause-loose : goal.join-requires-in-None-default-clause-loose
join-requires-in-None-default-clause-loose c =
    loose_right _ c.args.run c.right_of-right.result (are_runs _ _ c.requires.space) c.requires.good c.requires.taken
    (c.left_of-left.ensures.none (ap is_some c.in-None-default.is-0)) c.right_of-right.ensures.none c.right_of-right.ensures.some

pub returns-in-Some-Some-clause-given : goal.returns-in-Some-Some-clause-given
returns-in-Some-Some-clause-given c n =
    let left = rw c.in-Some-Some.is-0 at c.left_of-left.ensures.some in
    let right = rw c.in-Some-Some.is-1 at c.right_of-right.ensures.some in
    given_both _ _ c.args.run _ c.in-Some-Some.next (are_runs _ _ c.requires.space) (are_runs _ _ c.drop_run.ensures.step.space) c.requires.good
    c.requires.taken left.0 left.1 right.0 right.1 c.drop_run.ensures.set (IsFreeRun c.join.new.over c.join.new.self) n (c.join.ensures.given n)

pub returns-in-Some-Some-clause-frame : goal.returns-in-Some-Some-clause-frame
returns-in-Some-Some-clause-frame c = let both = then_step c.drop_run.ensures.step c.join.ensures.step in both.frame
