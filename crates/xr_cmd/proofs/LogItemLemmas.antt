-- The items of all entries, one after another.
use Rattle.std.proofs.Common.{◌≡◌, List, [], ◌∷◌, ◌++◌, refl, ap}
use Rattle.std.specs.Global.{Vec}
use Rattle.xr_items.specs.declared.item.Item.{Item}
use Rattle.xr_commit.specs.ItemsOf.{items_in}
use Rattle.xr_commit.specs.Pending.{joined_items}
use Rattle.xr_cmd.specs.ShowLog.{all_items}

-- the items of all lists
pub joined : (lists : List (Vec Item)) → joined_items lists ≡ all_items (items_in lists)
joined [] = refl
joined (list ∷ lists) = ap (λ items. list.items ++ items) (joined lists)
