use Rattle.std.proofs.Common.{arith}
use Rattle.xr_commit.proofs.RegionHomeLemmas.{counting_begins, counting_ends, counting_on}
use Rattle.xr_commit.proofs.HeaderWalkLemmas.{tail_is}
use Rattle.xr_commit.proofs.homes.begun_in.Goals as goal

pub loop-at-init : goal.loop-at-init
loop-at-init c = counting_begins c.args.body.now c.args.started

pub begun_on-begun-requires-clause-few : goal.begun_on-begun-requires-clause-few
begun_on-begun-requires-clause-few c = let i = c.loop-at.invariant in omega (arith, i.few, i.walk.few, i.walk.near)

pub loop-at-preserved : goal.loop-at-preserved
loop-at-preserved c =
    counting_on c.args.body.now _ _ _ _ _ _ _ c.loop-at.begun.started (tail_is c.loop-at.at c.args.body.now) c.loop-at.invariant c.loop-at-test.true c.requires
    c.operation_len-at.ensures.len c.operation_len-at.ensures.most c.begun_on-begun.ensures.regions c.begun_on-begun.ensures.started

pub returns-clause-regions : goal.returns-clause-regions
returns-clause-regions c = (counting_ends _ _ _ _ _ c.loop-at.invariant c.loop-at-test.false).0

pub returns-clause-started : goal.returns-clause-started
returns-clause-started c = (counting_ends _ _ _ _ _ c.loop-at.invariant c.loop-at-test.false).1
