use Rattle.std.proofs.Common.{arith}
use Rattle.std.proofs.lemmas.Result.{err_from_is_err_and}
use Rattle.xr_commit.proofs.ItemLoopLemmas.{takes_some, checking_begins, checking_breaks, checking_ends, checking_on}
use Rattle.xr_commit.proofs.check_items.check_regions.Goals as goal

pub loop-at-init : goal.loop-at-init
loop-at-init c = checking_begins c.args.uuid.now c.args.last c.args.regions.now c.requires

pub check_item-requires-clause-parted : goal.check_item-requires-clause-parted
check_item-requires-clause-parted c = c.loop-at.invariant.left

pub returns-in_err-item-clause-bad : goal.returns-in_err-item-clause-bad
returns-in_err-item-clause-bad c =
    let p = err_from_is_err_and c.from_residual.result c.from_residual.ensures.1 in
    rw (p.1, p.2) (checking_breaks _ _ _ _ _ _ _ c.loop-at.invariant c.in_err-item.ensures.bad)

pub overflow_add-at : goal.overflow_add-at
overflow_add-at c =
    let t = takes_some _ c.args.regions.now c.loop-at.at _ _ _ c.loop-at.invariant.within c.in_ok-item.ensures.good c.regions_of-at.ensures in
    omega (arith, t.1, c.len.ensures, c.len.type_inv)

pub loop-at-smaller : goal.loop-at-smaller
loop-at-smaller c =
    let t = takes_some _ c.args.regions.now c.loop-at.at _ _ _ c.loop-at.invariant.within c.in_ok-item.ensures.good c.regions_of-at.ensures in
    omega (arith, t.0, t.1)

pub loop-at-preserved : goal.loop-at-preserved
loop-at-preserved c =
    checking_on _ _ _ _ _ _ _ _ c.loop-at.invariant c.in_ok-item.ensures.good c.last_after-latest.ensures c.regions_of-at.ensures

pub returns-clause-good : goal.returns-clause-good
returns-clause-good c = checking_ends _ _ _ _ _ _ c.loop-at.invariant c.len.ensures c.loop-at-test.false
