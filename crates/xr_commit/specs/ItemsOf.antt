-- How the items of entries are read.
use Rattle.std.specs.Prelude.{ℕ, ◌==◌, if◌then◌else◌, List, map}
use Rattle.std.specs.Global.{Vec}
use Rattle.xr_items.specs.declared.item.Item.{Item}
use Rattle.xr_items.specs.Items.{following}
use Rattle.xr_record.specs.declared.entry.Entry.{Entry}
use Rattle.xr_commit.specs.LoggedItems.{AreItemsOf, AreItemsOfEach, IsEntryOf}

-- the regions of a transaction, an entry, and some entries that have items
abbrev pub RegionsHaveItems : List (List ℕ) → Type 0
RegionsHaveItems regions = (items : List Item) × AreItemsOf regions items

abbrev pub EntryHasItems : Entry → Type 0
EntryHasItems entry = (items : List Item) × IsEntryOf entry items

abbrev pub EntriesHaveItems : List Entry → Type 0
EntriesHaveItems entries = (items : List (List Item)) × AreItemsOfEach entries items

-- the items of lists that a slice holds
abbrev pub items_in : List (Vec Item) → List (List Item)
items_in lists = map (λ (list : Vec Item). list.items) lists

-- how many regions an item has
abbrev pub region_count : Item → ℕ
region_count item = if following item == 0 then 1 else 2
