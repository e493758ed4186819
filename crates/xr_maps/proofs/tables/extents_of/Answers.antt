use Rattle.xr_maps.proofs.ExtentLemmas.{extents_more}
use Rattle.xr_maps.proofs.tables.extents_of.Goals as goal

pub loop-extent-preserved : goal.loop-extent-preserved
loop-extent-preserved c = (
  c.in-Some.ensures.extent.within,
  rw c.in_ok-push.ensures.items (extents_more c.args.table.now c.loop-extent.place c.in-Some.extent c.loop-extent.extents.items c.loop-extent.invariant.1 c.in-Some.ensures),
)
