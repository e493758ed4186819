use Rattle.std.proofs.Common.{◌-◌}
use Rattle.xr_block.specs.Bounds.{IsBetween, entry_is_before}
use Rattle.xr_block.specs.TreeBlock.{entries_in}
use Rattle.xr_block.proofs.search.child_place.Given as goal

abbrev pub invariant-loop-low : goal.invariant-loop-low
invariant-loop-low g l = IsBetween (entry_is_before g.R.Record.form l.bound) (entries_in g.R.Record.form l.block) l.low l.high

abbrev pub decreases-loop-low : goal.decreases-loop-low
decreases-loop-low g l = l.high - l.low
