-- The items of entries, each entry's by itself.
use Rattle.std.proofs.Common.{◌≡◌, ℕ, zero, suc, ◌+◌, ◌<◌, List, [], ◌∷◌, ◌++◌, length, get_or, take, refl, sym, ap, ◌∙◌, arith}
use Rattle.std.specs.Global.{Vec}
use Rattle.std.proofs.lemmas.List.{map-append, take_more}
use Rattle.xr_items.specs.declared.item.Item.{Item}
use Rattle.xr_record.specs.declared.entry.Entry.{Entry}
use Rattle.xr_commit.specs.ItemsOf.{items_in}
use Rattle.xr_commit.specs.LoggedItems.{AreItemsOfEach, IsEntryOf}

pub each_at : (entries : List Entry) (items : List (List Item)) (i : ℕ) (entry : Entry) (default : List Item)
    → AreItemsOfEach entries items → i < length entries → IsEntryOf (get_or entries i entry) (get_or items i default)
each_at [] items i entry default each below = absurd (omega arith)
each_at (e ∷ entries) [] i entry default each below = absurd each
each_at (e ∷ entries) (own ∷ items) zero entry default each below = each.0
each_at (e ∷ entries) (own ∷ items) (suc i) entry default each below = each_at entries items i entry default each.1 (omega arith)

pub as_many : (entries : List Entry) (items : List (List Item)) → AreItemsOfEach entries items → length items ≡ length entries
as_many [] [] each = refl
as_many [] (own ∷ items) each = absurd each
as_many (e ∷ entries) [] each = absurd each
as_many (e ∷ entries) (own ∷ items) each = ap suc (as_many entries items each.1)

-- one more list
pub pushed : (i : ℕ) (items : List (List Item)) (lists : List (Vec Item)) (list : Vec Item) → i < length items → items_in lists ≡ take i items
    → list.items ≡ get_or items i list.items → items_in (lists ++ list ∷ []) ≡ take (i + 1) items
pushed i items lists list below so_far is =
    map-append (λ (v : Vec Item). v.items) lists (list ∷ []) ∙ ap (λ front. front ++ list.items ∷ []) so_far ∙ ap (λ own. take i items ++ own ∷ []) is
    ∙ sym (take_more items i list.items below)
