-- Taking the items of a transaction from its regions, one after another.
use Rattle.std.proofs.Common.{◌≡◌, ℕ, ◌+◌, ◌<◌, ◌≤◌, List, [], ◌∷◌, ◌++◌, length, get_or, map, sym, ap, ◌∙◌, arith, length-append}
use Rattle.std.specs.List.{AllByRecursion, flat_map}
use Rattle.std.proofs.Math.Seq.{get_or-append_seam}
use Rattle.std.proofs.lemmas.Grind.{flat_map-append}
use Rattle.std.proofs.lemmas.List.{append-nil, append_assoc, map-append}
use Rattle.xr_items.specs.declared.item.Item.{Item}
use Rattle.xr_items.specs.Items.{item_bytes}
use Rattle.xr_items.specs.Valid.{IsItem}
use Rattle.xr_commit.specs.ItemsOf.{region_count}
use Rattle.xr_commit.specs.LoggedItems.{Logged, logged_regions}
use Rattle.xr_commit.specs.ItemsOfLaws.{length-logged_regions}

abbrev HoldsItem : Logged → Type 0
HoldsItem l = IsItem l.item

-- of these items the first are taken, whose regions come to this place
pub record IsParted (logged : List Logged) (at : ℕ) (items : List Item) : Type 0 where
  pub front : List Logged
  pub back : List Logged
  pub logged_are : logged ≡ front ++ back
  pub items_are : items ≡ map (λ (l : Logged). l.item) front
  pub at_is : at ≡ length (flat_map logged_regions front)

pub record HasNext (logged : List Logged) (regions : List (List ℕ)) (at : ℕ) (items : List Item) (default : List ℕ) : Type 0 where
  pub item : Item
  pub valid : IsItem item
  pub here : get_or regions at default ≡ item_bytes item
  pub within : at + region_count item ≤ length regions
  pub parted : IsParted logged (at + region_count item) (items ++ item ∷ [])

later : (front back : List Logged) → AllByRecursion HoldsItem (front ++ back) → AllByRecursion HoldsItem back
later [] back all = all
later (l ∷ front) back all = later front back all.1

next_of : (front back : List Logged) (default : List ℕ) → AllByRecursion HoldsItem (front ++ back)
    → length (flat_map logged_regions front) < length (flat_map logged_regions (front ++ back))
    → HasNext (front ++ back) (flat_map logged_regions (front ++ back)) (length (flat_map logged_regions front)) (map (λ (l : Logged). l.item) front) default
next_of front [] default all below = absurd (omega (arith, ap (λ ls. length (flat_map logged_regions ls)) (append-nil front)))
next_of front (l ∷ back) default all below =
    let parts : flat_map logged_regions (front ++ l ∷ back) ≡ flat_map logged_regions front ++ (logged_regions l ++ flat_map logged_regions back) = flat_map-append logged_regions front (l ∷ back) in
    let pushed : flat_map logged_regions (front ++ l ∷ []) ≡ flat_map logged_regions front ++ (logged_regions l ++ []) = flat_map-append logged_regions front (l ∷ []) in
    let own = length-logged_regions l in
    record {
      item = l.item;
      valid = (later front (l ∷ back) all).0;
      here = rw parts (get_or-append_seam (flat_map logged_regions front) (item_bytes l.item) _ default);
      within = rw parts (omega (arith, own, length-append (flat_map logged_regions front) (logged_regions l ++ flat_map logged_regions back), length-append (logged_regions l) (flat_map logged_regions back)));
      parted = record {
        front = front ++ l ∷ [];
        back = back;
        logged_are = sym (append_assoc front (l ∷ []) back);
        items_are = sym (map-append (λ (m : Logged). m.item) front (l ∷ []));
        at_is = rw pushed (omega (arith, own, length-append (flat_map logged_regions front) (logged_regions l ++ []), length-append (logged_regions l) []));
      };
    }

-- what is taken next, where the regions go on
pub next : (logged : List Logged) (regions : List (List ℕ)) (at : ℕ) (items : List Item) (default : List ℕ) → AllByRecursion HoldsItem logged
    → regions ≡ flat_map logged_regions logged → IsParted logged at items → at < length regions → HasNext logged regions at items default
next logged regions at items default good regions_are parted below =
    rw (regions_are, parted.logged_are, parted.at_is, parted.items_are)
    (next_of parted.front parted.back default (rw parted.logged_are at good) (rw (regions_are, parted.logged_are, parted.at_is) at below))

taken_of : (front back : List Logged) → length (flat_map logged_regions (front ++ back)) ≤ length (flat_map logged_regions front) → front ≡ front ++ back
taken_of front [] past = sym (append-nil front)
taken_of front (l ∷ back) past =
    absurd (omega (arith, ap length (flat_map-append logged_regions front (l ∷ back)), length-append (flat_map logged_regions front) (logged_regions l ++ flat_map logged_regions back)))

-- where they don't, all are taken
pub all_taken : (logged : List Logged) (regions : List (List ℕ)) (given : List Item) (at : ℕ) (items : List Item) → given ≡ map (λ (l : Logged). l.item) logged
    → regions ≡ flat_map logged_regions logged → IsParted logged at items → length regions ≤ at → items ≡ given
all_taken logged regions given at items items_are regions_are parted past =
    parted.items_are ∙ ap (λ ls. map (λ (l : Logged). l.item) ls) (taken_of parted.front parted.back (rw (regions_are, parted.logged_are, parted.at_is) at past) ∙ sym parted.logged_are)
    ∙ sym items_are
