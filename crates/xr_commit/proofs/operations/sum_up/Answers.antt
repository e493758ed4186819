use Rattle.std.proofs.Common.{◌∙◌}
use Rattle.xr_commit.proofs.HeaderWalkLemmas.{tail_is}
use Rattle.xr_commit.proofs.OperationSumLemmas.{sums_begin, sums_end, sums_on, or_true, or_false}
use Rattle.xr_commit.proofs.operations.sum_up.Goals as goal

pub loop-bytes-init : goal.loop-bytes-init
loop-bytes-init c = sums_begin c.args.body.now

pub loop-bytes-preserved-then-unmounts : goal.loop-bytes-preserved-then-unmounts
loop-bytes-preserved-then-unmounts c =
    sums_on c.args.body.now _ c.loop-bytes.operations c.loop-bytes.bytes c.operation_len-bytes.result c.loop-bytes.unmounts c.loop-bytes.unmounts
    (tail_is c.loop-bytes.bytes c.args.body.now) c.loop-bytes.invariant c.loop-bytes-test.true c.requires c.operation_len-bytes.ensures.len c.operation_len-bytes.ensures.most (or_true _ _ c.if-unmounts.true)

pub loop-bytes-preserved : goal.loop-bytes-preserved
loop-bytes-preserved c =
    sums_on c.args.body.now _ c.loop-bytes.operations c.loop-bytes.bytes c.operation_len-bytes.result c.loop-bytes.unmounts c.is_unmount-unmounts.result
    (tail_is c.loop-bytes.bytes c.args.body.now) c.loop-bytes.invariant c.loop-bytes-test.true c.requires c.operation_len-bytes.ensures.len c.operation_len-bytes.ensures.most (c.is_unmount-unmounts.ensures ∙ or_false _ _ c.if-unmounts.false)

pub returns-clause-operations : goal.returns-clause-operations
returns-clause-operations c = (sums_end _ _ _ _ c.loop-bytes.invariant c.loop-bytes-test.false).0

pub returns-clause-bytes : goal.returns-clause-bytes
returns-clause-bytes c = (sums_end _ _ _ _ c.loop-bytes.invariant c.loop-bytes-test.false).1

pub returns-clause-unmounts : goal.returns-clause-unmounts
returns-clause-unmounts c = (sums_end _ _ _ _ c.loop-bytes.invariant c.loop-bytes-test.false).2
