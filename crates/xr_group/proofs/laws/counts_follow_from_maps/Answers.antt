use Rattle.xr_group.proofs.CountListLemmas.{counts_follow_from_maps}
use Rattle.xr_group.proofs.laws.counts_follow_from_maps.Goals as goal

pub returns : goal.returns
returns c = counts_follow_from_maps
