use Rattle.xr_log.proofs.ResumeLemmas.{IsSlotting}
use Rattle.xr_log.proofs.resume.slotted.Given as goal

abbrev pub invariant-loop-i : goal.invariant-loop-i
invariant-loop-i l = IsSlotting l.pending l.i l.table
