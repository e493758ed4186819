use Rattle.std.proofs.Common.{arith}
use Rattle.xr_log.proofs.FillLemmas.{following_most}
use Rattle.xr_log.proofs.pushing.filled_after.Goals as goal

pub filled_region-requires-clause-bytes : goal.filled_region-requires-clause-bytes
filled_region-requires-clause-bytes c = let m = following_most c.args.item.now in let is = c.follows-more.ensures in omega (arith, m, is)
