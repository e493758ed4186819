use Rattle.std.proofs.Common.{◌≡◌, ◌≤◌, drop, max}
use Rattle.xr_commit.specs.Pending.{joined_items}
use Rattle.xr_scan.specs.NextId.{next_id}
use Rattle.xr_scan.proofs.next_id.next_id.Given as goal

abbrev pub invariant-loop-list : goal.invariant-loop-list
invariant-loop-list l = record {
  next : next_id (joined_items l.lists) ≡ max l.next (next_id (joined_items (drop l.list-index l.lists)));
  some : 1 ≤ l.next;
}
