use Rattle.xr_maps.specs.StepLaws.{file_changes, punch_takes, remap_puts, exchange_swaps, steps_leave_good_maps, owners_are_counted, maps_are_one}
use Rattle.xr_maps.proofs.laws.steps_are_balances.Goals as goal

pub returns : goal.returns
returns c = record {
  changes = file_changes;
  punch = punch_takes;
  remap = remap_puts;
  exchange = exchange_swaps;
  good = steps_leave_good_maps;
  counted = owners_are_counted;
  one = maps_are_one;
}
