use Rattle.std.proofs.Common.{ℕ, ◌<◌, All, subst, arith}
use Rattle.std.proofs.lemmas.List.{take_all}
use Rattle.std.proofs.lemmas.Result.{err_from_is_err_and}
use Rattle.xr_commit.specs.Operations.{KeepsUnmounts}
use Rattle.xr_commit.proofs.RecordLemmas.{breaks_at, one_more, one_of}
use Rattle.xr_commit.proofs.bodies.check_unmounts.Goals as goal
use Rattle.xr_commit.specs.HeadLaws.{length-heads, nth}

pub check_unmount-requires-clause-stands : goal.check_unmount-requires-clause-stands
check_unmount-requires-clause-stands c =
    let known = c.requires.records in
    (nth known.0 c.loop-head.head-index c.head-item.result, one_of _ _ _ _ _ known.1 c.loop-head-test.true c.head-item.is)

pub returns-in_err-check_unmount : goal.returns-in_err-check_unmount
returns-in_err-check_unmount c records are =
    let p = err_from_is_err_and c.from_residual.result c.from_residual.ensures.1 in
    rw (p.1, p.2) (breaks_at _ _ _ _ _ _ are c.loop-head-test.true c.head-item.is (c.loop-head.invariant records are) (c.in_err-check_unmount.ensures))

pub loop-head-preserved : goal.loop-head-preserved
loop-head-preserved c records are =
    one_more KeepsUnmounts records c.loop-head.head-index c.head-item.result (subst (λ (n : ℕ). c.loop-head.head-index < n) (length-heads _ _ _ are) c.loop-head-test.true)
    (c.loop-head.invariant records are) (c.in_ok-check_unmount.ensures _ (one_of _ _ _ _ _ are c.loop-head-test.true c.head-item.is))

pub returns : goal.returns
returns c records are =
    subst (All KeepsUnmounts) (take_all c.loop-head.head-index records (let e = length-heads _ _ _ are in let f = c.loop-head-test.false in omega arith)) (c.loop-head.invariant records are)
