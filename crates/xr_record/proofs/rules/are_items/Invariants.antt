use Rattle.std.proofs.Common.{◌≡◌, drop}
use Rattle.xr_record.specs.ReaderFields.{region_items}
use Rattle.xr_record.specs.Stream.{are_items, items_from}
use Rattle.xr_record.proofs.rules.are_items.Given as goal

abbrev pub invariant-loop-region : goal.invariant-loop-region
invariant-loop-region l = items_from l.left (region_items (drop l.region-index l.regions)) ≡ are_items (region_items l.regions)
