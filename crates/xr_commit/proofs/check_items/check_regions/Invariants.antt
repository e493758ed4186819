use Rattle.std.proofs.Common.{◌-◌, length}
use Rattle.xr_commit.proofs.ItemLoopLemmas.{IsChecking}
use Rattle.xr_commit.proofs.check_items.check_regions.Given as goal

abbrev pub invariant-loop-at : goal.invariant-loop-at
invariant-loop-at l = IsChecking l.uuid l.fn.last l.regions l.at l.latest

abbrev pub decreases-loop-at : goal.decreases-loop-at
decreases-loop-at l = length l.regions - l.at
