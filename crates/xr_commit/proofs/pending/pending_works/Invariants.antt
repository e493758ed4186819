use Rattle.std.specs.Global.{Vec}
use Rattle.xr_items.specs.declared.item.Item.{Item}
use Rattle.xr_commit.proofs.PendingWalkLemmas.{HasWalked}
use Rattle.xr_commit.proofs.pending.pending_works.Given as goal

abbrev pub invariant-loop-left : goal.invariant-loop-left
invariant-loop-left l = HasWalked (λ (list : Vec Item). list.items) l.left l.lists l.initial.done l.initial.works.items l.done l.works.items

abbrev pub decreases-loop-left : goal.decreases-loop-left
decreases-loop-left l = l.left
