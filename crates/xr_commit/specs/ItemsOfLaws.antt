-- How many regions an item has.
use Rattle.std.proofs.Common.{◌≡◌, ℕ, List, length, refl}
use Rattle.xr_items.specs.declared.item.Item.{Item}
use Rattle.xr_items.specs.declared.item.Item.TheVariants.{Buf, Inode, Begin, Done}
use Rattle.xr_commit.specs.ItemsOf.{region_count}
use Rattle.xr_commit.specs.LoggedItems.{Logged, logged_regions}

many : (item : Item) (bytes : List ℕ) → length (logged_regions (record { item = item; bytes = bytes })) ≡ region_count item
many (Buf sector) bytes = refl
many (Inode ino) bytes = refl
many (Begin id work) bytes = refl
many (Done id done) bytes = refl

pub length-logged_regions : (l : Logged) → length (logged_regions l) ≡ region_count l.item
length-logged_regions l = many l.item l.bytes
