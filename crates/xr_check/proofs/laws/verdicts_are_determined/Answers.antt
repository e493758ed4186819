use Rattle.xr_check.specs.VerdictLaws.{verdicts_are_determined}
use Rattle.xr_check.proofs.laws.verdicts_are_determined.Goals as goal

pub returns : goal.returns
returns c = verdicts_are_determined
