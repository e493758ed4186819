use Rattle.xr_group.proofs.FreeListLemmas.{free_follow_from_maps}
use Rattle.xr_group.proofs.laws.free_follow_from_maps.Goals as goal

pub returns : goal.returns
returns c = free_follow_from_maps
