use Rattle.xr_group.proofs.ListLemmas.{owners_follow_from_maps}
use Rattle.xr_group.proofs.laws.owners_follow_from_maps.Goals as goal

pub returns : goal.returns
returns c = owners_follow_from_maps
