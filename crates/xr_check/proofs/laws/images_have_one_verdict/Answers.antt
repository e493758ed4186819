use Rattle.xr_check.proofs.LoadLawLemmas.{verdict_is_one}
use Rattle.xr_check.proofs.laws.images_have_one_verdict.Goals as goal

pub returns : goal.returns
returns c = verdict_is_one
