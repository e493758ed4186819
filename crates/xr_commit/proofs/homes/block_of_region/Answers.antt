use Rattle.std.proofs.Common.{refl}
use Rattle.xr_commit.proofs.BodyLemmas.{body_fits}
use Rattle.xr_commit.proofs.RecordLemmas.{one_of}
use Rattle.xr_commit.proofs.RegionHomeLemmas.{seek_ends, seek_found, seek_on}
use Rattle.xr_commit.proofs.homes.block_of_region.Goals as goal
use Rattle.xr_commit.specs.HeadLaws.{nth}

pub loop-head-init : goal.loop-head-init
loop-head-init c records are = refl

pub body_at-requires-clause-stands : goal.body_at-requires-clause-stands
body_at-requires-clause-stands c =
    let known = c.requires.records in
    (nth known.0 c.loop-head.head-index c.head-item.result, one_of _ _ _ _ _ known.1 c.loop-head-test.true c.head-item.is)

pub begun_in-begun-requires : goal.begun_in-begun-requires
begun_in-begun-requires c =
    let known = c.requires.records in
    let it = one_of _ _ _ _ _ known.1 c.loop-head-test.true c.head-item.is in
    body_fits c.args.log.now c.head-item.result _ c.body_at.result.now it (c.body_at.ensures _ it)

pub returns-then-left-begun : goal.returns-then-left-begun
returns-then-left-begun c = rw c.log_block_of.ensures (seek_found _ _ _ _ _ _ _ _ _ c.loop-head.invariant c.loop-head-test.true c.head-item.is c.body_at.ensures c.begun_in-begun.ensures.regions c.if-left-begun.true)

pub loop-head-preserved : goal.loop-head-preserved
loop-head-preserved c = seek_on _ _ _ _ _ _ _ _ _ _ c.loop-head.invariant c.loop-head-test.true c.head-item.is c.body_at.ensures c.begun_in-begun.ensures.regions c.begun_in-begun.ensures.started c.if-left-begun.false

pub unreachable-requires : goal.unreachable-requires
unreachable-requires c =
    let known = c.requires.records in
    let begins = c.requires.begins known.0 known.1 in
    seek_ends _ _ _ _ _ begins.0 _ known.0 c.loop-head.invariant c.loop-head-test.false known.1 begins.1
