use Rattle.std.proofs.Common.{◌∙◌, List, subst, arith}
use Rattle.std.proofs.lemmas.List.{take_all}
use Rattle.std.proofs.lemmas.Result.{err_from_is_err_and}
use Rattle.xr_commit.specs.LogRecords.{LogRecord}
use Rattle.xr_commit.specs.ReadBodies.{HaveBeenRead}
use Rattle.xr_commit.proofs.BodyLemmas.{body_fits}
use Rattle.xr_commit.proofs.FeedLemmas.{breaks_or_wants, ends_of, entries_of, read_more}
use Rattle.xr_commit.proofs.RecordLemmas.{one_of}
use Rattle.xr_commit.proofs.bodies.read_entries.Goals as goal
use Rattle.xr_commit.specs.HeadLaws.{length-heads, nth}

pub body_at-body-requires-clause-stands : goal.body_at-body-requires-clause-stands
body_at-body-requires-clause-stands c =
    let known = c.requires.records in
    (nth known.0 c.loop-head.head-index c.head-item.result, one_of _ _ _ _ _ known.1 c.loop-head-test.true c.head-item.is)

pub read_record-requires : goal.read_record-requires
read_record-requires c =
    let known = c.requires.records in
    let it = one_of _ _ _ _ _ known.1 c.loop-head-test.true c.head-item.is in
    body_fits c.args.log.now c.head-item.result _ c.body_at-body.result.now it (c.body_at-body.ensures _ it)

pub returns-in_err-read_record-clause-broken : goal.returns-in_err-read_record-clause-broken
returns-in_err-read_record-clause-broken c =
    let p = err_from_is_err_and c.from_residual-in_err-read_record.result c.from_residual-in_err-read_record.ensures.1 in
    rw (p.1, p.2) (breaks_or_wants _ _ _ _ _ _ _ _ c.loop-head-test.true c.head-item.is c.body_at-body.ensures c.loop-head.invariant c.in_err-read_record.ensures.wrong)

pub loop-head-preserved : goal.loop-head-preserved
loop-head-preserved c records are =
    read_more _ _ records _ _ _ _ _ _ _ are c.loop-head-test.true c.head-item.is c.body_at-body.ensures c.in_ok-read_record.ensures.reads (c.loop-head.invariant records are)

pub returns-clause-entries : goal.returns-clause-entries
returns-clause-entries c records are =
    entries_of records _ c.loop-head.reader (subst (λ (rs : List LogRecord). HaveBeenRead rs c.loop-head.entries.items c.loop-head.reader)
    (take_all c.loop-head.head-index records (let e = length-heads _ _ _ are in let f = c.loop-head-test.false in omega arith)) (c.loop-head.invariant records are))

pub returns-clause-ends : goal.returns-clause-ends
returns-clause-ends c records are said =
    c.ends_open-ends_open.ensures ∙ ends_of records _ _ c.loop-head.reader (subst (λ (rs : List LogRecord). HaveBeenRead rs c.loop-head.entries.items c.loop-head.reader)
    (take_all c.loop-head.head-index records (let e = length-heads _ _ _ are in let f = c.loop-head-test.false in omega arith)) (c.loop-head.invariant records are)) said
