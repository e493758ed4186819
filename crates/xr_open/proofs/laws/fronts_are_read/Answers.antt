use Rattle.xr_kinds.specs.Mapping.{mapping_form}
use Rattle.xr_open.specs.PoolStateLaws.{even_maps_keep_block_zero, first_block_is_front, parts_of_front_stay, roots_are_used}
use Rattle.xr_open.proofs.laws.fronts_are_read.Goals as goal

pub returns : goal.returns
returns c = record {
  first = first_block_is_front;
  part = parts_of_front_stay;
  own_block = even_maps_keep_block_zero;
  root = roots_are_used mapping_form;
}
