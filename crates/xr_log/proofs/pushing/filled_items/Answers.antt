use Rattle.std.proofs.Common.{arith}
use Rattle.xr_log.proofs.FillLemmas.{all_filled, filled_more}
use Rattle.xr_log.proofs.pushing.filled_items.Goals as goal

pub loop-planned-preserved : goal.loop-planned-preserved
loop-planned-preserved c = (
  filled_more c.args.plan.now c.loop-planned.planned-index _ c.args.fill c.loop-planned.fill c.filled_item-fill.result c.loop-planned-test.true c.loop-planned.invariant.0
      c.filled_item-fill.ensures.is,
  c.filled_item-fill.ensures.len,
  let so_far = c.loop-planned.invariant.2 in let one = c.filled_item-fill.ensures.records in omega (arith, so_far, one),
)

pub returns-clause-is : goal.returns-clause-is
returns-clause-is c =
    all_filled c.args.plan.now c.loop-planned.planned-index c.args.fill c.loop-planned.fill (omega (arith, c.loop-planned-test.false)) c.loop-planned.invariant.0
