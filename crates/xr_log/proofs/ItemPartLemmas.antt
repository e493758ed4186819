-- That the regions of whole items part into items, where the first region of each tells how many it has.
use Rattle.std.proofs.Common.{◌≡◌, ℕ, ◌-◌, ◌∙◌, true, List, [], ◌∷◌, ◌++◌, refl, ap}
use Rattle.std.specs.Prelude.{◌==◌, if◌then◌else◌}
use Rattle.std.specs.List.{AllByRecursion, flat_map}
use Rattle.xr_items.specs.declared.item.Item.{Item}
use Rattle.xr_items.specs.declared.item.Item.TheVariants.{Buf, Inode, Begin, Done}
use Rattle.xr_items.specs.Items.{following, item_bytes}
use Rattle.xr_items.specs.Valid.{IsItem}
use Rattle.xr_record.specs.Stream.{are_items, item_len, items_from}
use Rattle.xr_commit.specs.ItemsOf.{region_count}
use Rattle.xr_commit.specs.LoggedItems.{Logged, logged_regions}
use Rattle.xr_scan.specs.LoggedEntries.{IsWholeItem}

by_item : (item : Item) (bytes : List ℕ) (rest : List (List ℕ)) → are_items rest ≡ true
    → items_from (region_count item - 1) ((if following item == 0 then [] else (bytes ∷ [])) ++ rest) ≡ true
by_item (Buf sector) bytes rest parted = parted
by_item (Inode ino) bytes rest parted = parted
by_item (Begin id work) bytes rest parted = parted
by_item (Done id of) bytes rest parted = parted

pub parts_are_items : ((item : Item) → IsItem item → item_len (item_bytes item) ≡ region_count item) → (logged : List Logged)
    → AllByRecursion IsWholeItem logged → are_items (flat_map logged_regions logged) ≡ true
parts_are_items len [] whole = refl
parts_are_items len (l ∷ logged) whole =
    ap (λ (n : ℕ). items_from (n - 1) ((if following l.item == 0 then [] else (l.bytes ∷ [])) ++ flat_map logged_regions logged)) (len l.item whole.0.valid)
    ∙ by_item l.item l.bytes (flat_map logged_regions logged) (parts_are_items len logged whole.1)
