use Rattle.std.proofs.Common.{arith}
use Rattle.xr_log.proofs.FillLemmas.{all_counted, count_most, count_more}
use Rattle.xr_log.proofs.pushing.regions_in.Goals as goal

pub loop-planned-preserved : goal.loop-planned-preserved
loop-planned-preserved c = (
  λ blocks.
      count_more blocks c.args.plan.now c.loop-planned.planned-index _ c.loop-planned.count c.region_count-count.result c.loop-planned-test.true
      (c.loop-planned.invariant.0 blocks) c.region_count-count.ensures,
  let so_far = c.loop-planned.invariant.1 in
      let one = count_most _ c.region_count-count.result c.region_count-count.ensures in
      omega (arith, so_far, one),
)

pub returns : goal.returns
returns c = λ blocks.
    all_counted blocks c.args.plan.now c.loop-planned.planned-index c.loop-planned.count (omega (arith, c.loop-planned-test.false)) (c.loop-planned.invariant.0 blocks)
