use Rattle.xr_check.specs.Verdicts.{AreFirstGroups}
use Rattle.xr_check.proofs.tests.groups.Given as goal

abbrev pub invariant-loop-number : goal.invariant-loop-number
invariant-loop-number g l = AreFirstGroups l.groups.items l.number
