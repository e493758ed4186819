use Rattle.std.proofs.Common.{◌≡◌, ◌≤◌, ◌++◌, List, drop, max}
use Rattle.xr_items.specs.declared.item.Item.{Item}
use Rattle.xr_scan.specs.NextId.{next_id}
use Rattle.xr_scan.proofs.next_id.next_in.Given as goal

abbrev pub invariant-loop-item : goal.invariant-loop-item
invariant-loop-item l = record {
  next : (later : List Item) → max l.next (next_id (l.items ++ later)) ≡ max l.found (next_id (drop l.item-index l.items ++ later));
  up : l.next ≤ l.found;
}
