-- The items whose regions are replayed, one after another.
use Rattle.std.proofs.Common.{◌≡◌, ◌∙◌, ℕ, ◌+◌, ◌-◌, ◌*◌, ◌/◌, ◌<◌, ◌≤◌, true, false, List, ◌++◌, length, get_or, refl, sym, ap, arith}
use Rattle.std.proofs.lemmas.Bool.{eq-eqb, false≢true}
use Rattle.std.proofs.lemmas.List.{get_or-drop, length-append, length-drop}
use Rattle.xr_items.specs.declared.item.Item.{Item}
use Rattle.xr_items.specs.declared.item.Item.TheVariants.{Buf, Inode, Begin, Done}
use Rattle.xr_items.specs.Items.{following}
use Rattle.xr_commit.specs.ItemsOf.{region_count}
use Rattle.xr_commit.specs.LoggedItems.{Logged, logged_regions}
use Rattle.xr_scan.specs.Replaying.{IsNextLogged, LogsNone, LogsOnly}
use Rattle.xr_commit.specs.ItemsOfLaws.{length-logged_regions}

pub count_none : (item : Item) → LogsNone item → region_count item ≡ 1
count_none (Buf sector) none = absurd (false≢true (sym (none (sector / 8)) ∙ eq-eqb (sector / 8) (sector / 8) refl))
count_none (Inode ino) none = absurd (false≢true (sym (none (520 + 8 * (ino - 128))) ∙ eq-eqb (520 + 8 * (ino - 128)) (520 + 8 * (ino - 128)) refl))
count_none (Begin id work) none = refl
count_none (Done id of) none = refl

pub count_some : (item : Item) (block : ℕ) → LogsOnly item block → region_count item ≡ 2
count_some (Buf sector) block logs = refl
count_some (Inode ino) block logs = refl
count_some (Begin id work) block logs = absurd (false≢true (logs.only block ∙ eq-eqb block block refl))
count_some (Done id of) block logs = absurd (false≢true (logs.only block ∙ eq-eqb block block refl))

pub follower_within : (regions : List (List ℕ)) (at : ℕ) (item : Item) (l : Logged) → IsNextLogged regions at item l → region_count item ≡ 2 → at + 1 < length regions
follower_within regions at item l next two =
    omega (arith, two, length-logged_regions l, ap region_count next.item_is, length-drop at regions, ap length next.here, length-append (logged_regions l) next.rest)

second : (item : Item) (bytes : List ℕ) (rest : List (List ℕ)) (d : List ℕ) → region_count item ≡ 2
    → get_or (logged_regions (record { item = item; bytes = bytes }) ++ rest) 1 d ≡ bytes
second (Buf sector) bytes rest d two = refl
second (Inode ino) bytes rest d two = refl
second (Begin id work) bytes rest d two = absurd (omega (arith, two))
second (Done id of) bytes rest d two = absurd (omega (arith, two))

pub follower_is : (regions : List (List ℕ)) (at : ℕ) (item : Item) (l : Logged) (region : List ℕ) → IsNextLogged regions at item l → region_count item ≡ 2
    → region ≡ get_or regions (at + 1) region → region ≡ l.bytes
follower_is regions at item l region next two is =
    is ∙ sym (get_or-drop at regions 1 region) ∙ ap (λ (rs : List (List ℕ)). get_or rs 1 region) next.here
    ∙ second l.item l.bytes next.rest region (ap region_count next.item_is ∙ two)

short : (item : Item) → following item ≤ 4096
short (Buf sector) = omega arith
short (Inode ino) = omega arith
short (Begin id work) = omega arith
short (Done id of) = omega arith

pub follower_fits : (regions : List (List ℕ)) (at : ℕ) (item : Item) (l : Logged) (region : List ℕ) → IsNextLogged regions at item l → region ≡ l.bytes → length region ≤ 4096
follower_fits regions at item l region next is = omega (arith, ap length is, next.whole.long, short l.item)
