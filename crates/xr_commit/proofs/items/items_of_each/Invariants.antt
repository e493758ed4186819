use Rattle.std.proofs.Common.{◌≡◌, List, take}
use Rattle.xr_items.specs.declared.item.Item.{Item}
use Rattle.xr_commit.specs.ItemsOf.{items_in}
use Rattle.xr_commit.specs.LoggedItems.{AreItemsOfEach}
use Rattle.xr_commit.proofs.items.items_of_each.Given as goal

abbrev pub invariant-loop-entry : goal.invariant-loop-entry
invariant-loop-entry l = (items : List (List Item)) → AreItemsOfEach l.entries items → items_in l.lists.items ≡ take l.entry-index items
