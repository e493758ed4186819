use Rattle.std.proofs.Common.{arith}
use Rattle.xr_commit.specs.Pending.{joined_items}
use Rattle.xr_scan.proofs.NextIdLemmas.{next_some, valid_at}
use Rattle.xr_scan.proofs.next_id.next_id.Goals as goal

pub loop-list-init : goal.loop-list-init
loop-list-init c = record { next = let some = next_some (joined_items c.args.lists.now) in omega arith; some = omega arith }

pub next_in-next-requires : goal.next_in-next-requires
next_in-next-requires c = valid_at c.args.lists.now c.loop-list.list-index c.list-item.result c.deref.result.now c.requires c.loop-list-test.true c.list-item.is c.deref.ensures.value
