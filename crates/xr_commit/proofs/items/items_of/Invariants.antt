use Rattle.std.proofs.Common.{List, length, ◌-◌}
use Rattle.xr_items.specs.declared.item.Item.{Item}
use Rattle.xr_commit.specs.LoggedItems.{AreItemsOf}
use Rattle.xr_commit.proofs.TakenItemLemmas.{IsParted}
use Rattle.xr_commit.proofs.items.items_of.Given as goal

abbrev pub invariant-loop-at : goal.invariant-loop-at
invariant-loop-at l = (given : List Item) (are : AreItemsOf l.regions given) → IsParted are.logged l.at l.items.items

abbrev pub decreases-loop-at : goal.decreases-loop-at
decreases-loop-at l = length l.regions - l.at
