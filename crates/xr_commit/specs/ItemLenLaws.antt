-- The bytes of an item say how many regions it takes.
use Rattle.std.proofs.Common.{◌≡◌, ℕ, ◌≤◌, ◌∙◌, ltb, List, length, drop, refl, sym, ap, arith}
use Rattle.std.specs.Prelude.{max}
use Rattle.std.proofs.lemmas.Bool.{cond-false, le-ltb}
use Rattle.byteorder.specs.Endian.{little_number}
use Rattle.xr_items.specs.declared.item.DoneOf.{DoneOf}
use Rattle.xr_items.specs.declared.item.DoneOf.TheVariants.{Efd, Rud, Cud, Bud, Xmd}
use Rattle.xr_items.specs.declared.item.Item.{Item}
use Rattle.xr_items.specs.declared.item.Item.TheVariants.{Buf, Inode, Begin, Done}
use Rattle.xr_items.specs.declared.work.Work.{Work}
use Rattle.xr_items.specs.declared.work.Work.TheVariants.{Free, Own, Count, Map, Swap}
use Rattle.xr_base.specs.Fields.{le16_at, le_at}
use Rattle.xr_items.specs.Items.{item_bytes, kind_of, kind_of_done, kind_of_work, length_of, regions_of as regions_of_kind}
use Rattle.xr_items.specs.Valid.{IsItem}
use Rattle.xr_items.specs.ItemLaws.{framed_item}
use Rattle.xr_record.specs.Stream.{item_len}
use Rattle.xr_commit.specs.ItemsOf.{region_count}

of_work : (work : Work) → regions_of_kind (kind_of_work work) ≡ 1
of_work (Free run) = refl
of_work (Own kind owner off run) = refl
of_work (Count kind run) = refl
of_work (Map kind file off run) = refl
of_work (Swap file off other other_off len) = refl

of_done : (done : DoneOf) → regions_of_kind (kind_of_done done) ≡ 1
of_done (Efd run) = refl
of_done Rud = refl
of_done Cud = refl
of_done Bud = refl
of_done Xmd = refl

of_item : (item : Item) → regions_of_kind (kind_of item) ≡ region_count item
of_item (Buf sector) = refl
of_item (Inode ino) = refl
of_item (Begin id work) = of_work work
of_item (Done id done) = of_done done

half_is : (bytes : List ℕ) → le16_at bytes 2 ≡ little_number 2 (drop 2 bytes)
unfolding le_at
half_is bytes = refl

long_enough : (item : Item) → 16 ≤ length_of (kind_of item)
long_enough (Buf sector) = omega arith
long_enough (Inode ino) = omega arith
long_enough (Begin id (Free run)) = omega arith
long_enough (Begin id (Own kind owner off run)) = omega arith
long_enough (Begin id (Count kind run)) = omega arith
long_enough (Begin id (Map kind file off run)) = omega arith
long_enough (Begin id (Swap file off other other_off len)) = omega arith
long_enough (Done id (Efd run)) = omega arith
long_enough (Done id Rud) = omega arith
long_enough (Done id Cud) = omega arith
long_enough (Done id Bud) = omega arith
long_enough (Done id Xmd) = omega arith

named : (bytes : List ℕ) (n : ℕ) → 4 ≤ length bytes → little_number 2 (drop 2 bytes) ≡ n → item_len bytes ≡ max 1 n
named bytes n long is =
    cond-false (ltb (length bytes) 4) 1 (max 1 (little_number 2 (drop 2 bytes))) (le-ltb (length bytes) 4 long) ∙ ap (max 1) is

most_takes : (item : Item) → max 1 (region_count item) ≡ region_count item
most_takes (Buf sector) = refl
most_takes (Inode ino) = refl
most_takes (Begin id work) = refl
most_takes (Done id done) = refl

pub item_len_is : (item : Item) → IsItem item → item_len (item_bytes item) ≡ region_count item
item_len_is item valid =
    let framed = framed_item item (item_bytes item) valid refl in
    named (item_bytes item) (region_count item) (omega (arith, framed.long, long_enough item)) (sym (half_is (item_bytes item)) ∙ framed.regions ∙ of_item item)
    ∙ most_takes item
