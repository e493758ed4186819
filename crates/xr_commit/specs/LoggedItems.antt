-- The items that the regions of a transaction are.
use Rattle.std.specs.Prelude.{◌≡◌, ◌==◌, ℕ, if◌then◌else◌, List, [], ◌∷◌, map}
use Rattle.std.specs.List.{AllByRecursion, flat_map}
use Rattle.xr_items.specs.declared.item.Item.{Item}
use Rattle.xr_items.specs.Items.{following, item_bytes}
use Rattle.xr_items.specs.Valid.{IsItem}
use Rattle.xr_record.specs.declared.entry.Entry.{Entry}
use Rattle.xr_record.specs.declared.entry.Entry.TheVariants.{Trans, Unmount}

-- an item of a transaction, and the bytes of the region that follows it, which are none where none does
pub record Logged : Type 0 where
  pub item : Item
  pub bytes : List ℕ

abbrev pub logged_regions : Logged → List (List ℕ)
logged_regions l = item_bytes l.item ∷ (if following l.item == 0 then [] else (l.bytes ∷ []))

-- the regions are those of these items, one after another
pub record AreItemsOf (regions : List (List ℕ)) (items : List Item) : Type 0 where
  pub logged : List Logged
  pub items_are : items ≡ map (λ (l : Logged). l.item) logged
  pub valid : AllByRecursion (λ (l : Logged). IsItem l.item) logged
  pub regions_are : regions ≡ flat_map logged_regions logged

-- the same of an entry
abbrev pub IsEntryOf : Entry → List Item → Type 0
IsEntryOf (Trans tid regions) items = AreItemsOf regions items
IsEntryOf Unmount items = items ≡ []

-- the items of some entries, each entry's by itself
abbrev pub AreItemsOfEach : List Entry → List (List Item) → Type 0
AreItemsOfEach [] [] = Unit {0}
AreItemsOfEach (e ∷ es) (items ∷ more) = IsEntryOf e items × AreItemsOfEach es more
AreItemsOfEach _ _ = ⊥
