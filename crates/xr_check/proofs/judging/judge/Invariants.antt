use Rattle.xr_check.proofs.JudgeLemmas.{AreSoundBelow}
use Rattle.xr_check.proofs.judging.judge.Given as goal

abbrev pub invariant-loop-place : goal.invariant-loop-place
invariant-loop-place l = AreSoundBelow l.loaded.maps l.loaded.groups.items l.place
