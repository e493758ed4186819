use Rattle.std.proofs.Common.{◌≡◌, None, take}
use Rattle.std.specs.Prelude.{Ok}
use Rattle.xr_log.specs.TransactionItems.{logged_in}
use Rattle.xr_log.specs.TransactionPushes.{PushesItems}
use Rattle.xr_log.proofs.pushing.push_items.Given as goal

abbrev pub invariant-loop-planned : goal.invariant-loop-planned
invariant-loop-planned g l = PushesItems (g.D.Disk.view l.initial.disk) (g.D.Disk.view l.disk) l.initial.held l.held l.tid (logged_in l.blocks (take l.planned-index l.plan)) (Ok tt)
    × (l.held.down ≡ None)
