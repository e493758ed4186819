use Rattle.xr_record.specs.HoldLaws.{items_more}
use Rattle.xr_record.proofs.rules.are_items.Goals as goal

pub loop-region-preserved : goal.loop-region-preserved
loop-region-preserved c =
    items_more _ _ _ _ c.region-item.result _ c.loop-region-test.true c.region-item.is (rw c.deref.ensures.value at c.left_after-left.ensures) c.loop-region.invariant
