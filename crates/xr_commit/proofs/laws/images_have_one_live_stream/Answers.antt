use Rattle.xr_commit.proofs.OneLiveLemmas.{one_live}
use Rattle.xr_commit.proofs.laws.images_have_one_live_stream.Goals as goal

pub returns : goal.returns
returns c = one_live
