use Rattle.xr_maps.specs.RecordLaws.{extents_are_determined, owners_are_determined, shared_are_determined, free_are_determined}
use Rattle.xr_maps.proofs.laws.records_are_determined.Goals as goal

pub returns : goal.returns
returns c = record {
  extents = extents_are_determined;
  owners = owners_are_determined;
  shared = shared_are_determined;
  free = free_are_determined;
}
