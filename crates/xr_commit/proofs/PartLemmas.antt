-- How the regions of a transaction part into items, one after another.
use Rattle.std.proofs.Common.{◌≡◌, ℕ, ◌-◌, ◌<◌, ◌∙◌, true, List, [], ◌∷◌, refl, sym, ap, arith}
use Rattle.std.specs.Prelude.{◌==◌, if◌then◌else◌}
use Rattle.xr_items.specs.declared.item.Item.{Item}
use Rattle.xr_items.specs.declared.item.Item.TheVariants.{Buf, Inode, Begin, Done}
use Rattle.xr_items.specs.Items.{following, item_bytes}
use Rattle.xr_items.specs.Valid.{IsItem}
use Rattle.xr_record.specs.Stream.{are_items, items_from}
use Rattle.xr_commit.specs.ItemLenLaws.{item_len_is}
use Rattle.xr_commit.specs.ItemsOf.{region_count}

-- so many regions of an item are still to come after its first
pub after_format : (item : Item) (rest : List (List ℕ)) → IsItem item → are_items (item_bytes item ∷ rest) ≡ true → items_from (region_count item - 1) rest ≡ true
after_format item rest valid parted = ap (λ (n : ℕ). items_from (n - 1) rest) (sym (item_len_is item valid)) ∙ parted

pub one_follows : (item : Item) (rest : List (List ℕ)) → 0 < following item → items_from (region_count item - 1) rest ≡ true
    → (region : List ℕ) × (more : List (List ℕ)) × (rest ≡ region ∷ more) × (are_items more ≡ true)
one_follows (Buf sector) [] some parted = absurd (cc)
one_follows (Buf sector) (region ∷ more) some parted = (region, more, refl, parted)
one_follows (Inode ino) [] some parted = absurd (cc)
one_follows (Inode ino) (region ∷ more) some parted = (region, more, refl, parted)
one_follows (Begin id work) rest some parted = absurd (omega arith)
one_follows (Done id done) rest some parted = absurd (omega arith)

pub none_follows : (item : Item) (rest : List (List ℕ)) → following item ≡ 0 → items_from (region_count item - 1) rest ≡ true → are_items rest ≡ true
none_follows item rest none parted = ap (λ (n : ℕ). items_from ((if n == 0 then 1 else 2) - 1) rest) (sym none) ∙ parted
