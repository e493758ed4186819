use Rattle.xr_check.specs.WalkLaws.{HasWalked}
use Rattle.xr_check.proofs.walk.first_difference.Given as goal

abbrev pub invariant-loop-wanted : goal.invariant-loop-wanted
invariant-loop-wanted g l = HasWalked (g.T.GroupTree.records l.group) l.defined l.wanted-index l.last
