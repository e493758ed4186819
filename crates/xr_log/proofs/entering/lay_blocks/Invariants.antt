use Rattle.std.proofs.Common.{take}
use Rattle.xr_log.specs.Entering.{Lays}
use Rattle.xr_log.proofs.entering.lay_blocks.Given as goal

abbrev pub invariant-loop-logged : goal.invariant-loop-logged
invariant-loop-logged l = Lays (take l.logged-index l.changed) l.initial.copies l.initial.dirty l.copies l.dirty
