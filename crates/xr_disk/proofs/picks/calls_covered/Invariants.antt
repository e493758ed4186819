use Rattle.std.proofs.Common.{take}
use Rattle.xr_disk.specs.Picks.{AreCovered}
use Rattle.xr_disk.proofs.picks.calls_covered.Given as goal

abbrev pub invariant-loop-i : goal.invariant-loop-i
invariant-loop-i l = AreCovered (take l.i l.done) l.covered
