-- The items of a transaction, tested one after another.
use Rattle.std.proofs.Common.{◌≡◌, ℕ, ◌+◌, ◌≤◌, ◌∙◌, true, List, [], ◌∷◌, ◌++◌, length, take, drop, refl, sym, ap, subst, inl, inr, arith}
use Rattle.std.specs.List.{flat_map}
use Rattle.std.proofs.lemmas.Grind.{flat_map-append}
use Rattle.std.proofs.lemmas.List.{append-nil, drop-drop, length-append, length-drop, length-take-le, take-append-drop, take_all}
use Rattle.std.proofs.Math.Seq.{drop-append_seam, take-add, take-append_seam}
use Rattle.xr_items.specs.declared.item.Item.{Item}
use Rattle.xr_items.specs.declared.item.Item.TheVariants.{Buf, Inode, Begin, Done}
use Rattle.xr_items.specs.Valid.{IsItem}
use Rattle.xr_record.specs.Stream.{are_items}
use Rattle.xr_items.specs.declared.item.ItemFault.{ItemFault}
use Rattle.xr_commit.specs.BadItems.{IsBadItem, IsBadRegion, IsBadlyFollowed}
use Rattle.xr_commit.specs.GoodItems.{ItemsAreGood, RegionsAreGood, IsGoodItem, last_after, last_of}
use Rattle.xr_commit.specs.LoggedItems.{Logged, logged_regions}
use Rattle.xr_commit.specs.ItemsOf.{region_count}
use Rattle.xr_commit.specs.CheckItems.{IsNextBad, IsNextGood}
use Rattle.xr_commit.proofs.PartLemmas.{after_format}
use Rattle.xr_commit.specs.ItemsOfLaws.{length-logged_regions}

-- the regions before a place are good items, and those from it on part into items
pub record IsChecking (uuid : List ℕ) (last : ℕ) (regions : List (List ℕ)) (at latest : ℕ) : Type 0 where
  pub logged : List Logged
  pub good : ItemsAreGood uuid last logged
  pub taken : take at regions ≡ flat_map logged_regions logged
  pub latest_is : latest ≡ last_of last logged
  pub left : are_items (drop at regions) ≡ true
  pub within : at ≤ length regions

pub checking_begins : (uuid : List ℕ) (last : ℕ) (regions : List (List ℕ)) → are_items regions ≡ true → IsChecking uuid last regions 0 last
checking_begins uuid last regions parted = record { logged = []; good = tt; taken = refl; latest_is = refl; left = parted; within = omega arith }

pub good_push : (uuid : List ℕ) (last : ℕ) (ls : List Logged) (l : Logged) → ItemsAreGood uuid last ls → IsGoodItem uuid (last_of last ls) l → ItemsAreGood uuid last (ls ++ l ∷ [])
good_push uuid last [] l all good = (good, tt)
good_push uuid last (m ∷ ms) l all good = (all.0, good_push uuid (last_after last m.item) ms l all.1 good)

pub last_push : (last : ℕ) (ls : List Logged) (l : Logged) → last_of last (ls ++ l ∷ []) ≡ last_after (last_of last ls) l.item
last_push last [] l = refl
last_push last (m ∷ ms) l = last_push (last_after last m.item) ms l

-- the regions after an item part into items again
parts_after : (item : Item) (bytes : List ℕ) (rest : List (List ℕ)) → IsItem item → are_items (logged_regions (record { item = item; bytes = bytes }) ++ rest) ≡ true → are_items rest ≡ true
parts_after (Buf sector) bytes rest valid parted = after_format (Buf sector) (bytes ∷ rest) valid parted
parts_after (Inode ino) bytes rest valid parted = after_format (Inode ino) (bytes ∷ rest) valid parted
parts_after (Begin id work) bytes rest valid parted = after_format (Begin id work) rest valid parted
parts_after (Done id done) bytes rest valid parted = after_format (Done id done) rest valid parted

parted_after : (l : Logged) (rest : List (List ℕ)) → IsItem l.item → are_items (logged_regions l ++ rest) ≡ true → are_items rest ≡ true
parted_after l rest valid parted = parts_after l.item l.bytes rest valid parted

pub checking_on : (uuid : List ℕ) (last : ℕ) (regions : List (List ℕ)) (at latest latest' n : ℕ) (item : Item) → IsChecking uuid last regions at latest
    → IsNextGood uuid latest (drop at regions) item → latest' ≡ last_after latest item → n ≡ region_count item → IsChecking uuid last regions (at + n) latest'
checking_on uuid last regions at latest latest' n item t next after few =
    let l = next.logged in
    let some : n ≡ length (logged_regions l) = few ∙ ap region_count (sym next.item_is) ∙ sym (length-logged_regions l) in
    let front : take n (drop at regions) ≡ logged_regions l = rw (some, next.regions_are) (take-append_seam (logged_regions l) next.rest) in
    let left_is : drop (at + n) regions ≡ next.rest = sym (drop-drop n at regions) ∙ rw (some, next.regions_are) (drop-append_seam (logged_regions l) next.rest) in
    record {
      logged = t.logged ++ l ∷ [];
      good = good_push uuid last t.logged l t.good (subst (λ (m : ℕ). IsGoodItem uuid m l) t.latest_is next.good);
      taken = take-add at n regions ∙ rw (t.taken, front) (sym (flat_map-append logged_regions t.logged (l ∷ []) ∙ ap (λ (rs : List (List ℕ)). flat_map logged_regions t.logged ++ rs) (append-nil (logged_regions l))));
      latest_is = after ∙ ap (λ (m : ℕ). last_after m item) t.latest_is ∙ ap (last_after (last_of last t.logged)) (sym next.item_is) ∙ sym (last_push last t.logged l);
      left = subst (λ (rs : List (List ℕ)). are_items rs ≡ true) (sym left_is)
          (parted_after l next.rest next.good.valid (subst (λ (rs : List (List ℕ)). are_items rs ≡ true) next.regions_are t.left));
      within = omega (arith, t.within, some, length-drop at regions, ap length next.regions_are, length-append (logged_regions l) next.rest);
    }

pub checking_ends : (uuid : List ℕ) (last : ℕ) (regions : List (List ℕ)) (at latest n : ℕ) → IsChecking uuid last regions at latest → n ≡ length regions → n ≤ at
    → RegionsAreGood uuid last regions latest
checking_ends uuid last regions at latest n t long over = record {
  logged = t.logged;
  good = t.good;
  regions_are = sym (take_all at regions (omega (arith, long, over))) ∙ t.taken;
  last_is = t.latest_is;
}

-- an item region_count a region at least, and no more than there are
pub takes_some : (uuid : List ℕ) (regions : List (List ℕ)) (at latest n : ℕ) (item : Item) → at ≤ length regions → IsNextGood uuid latest (drop at regions) item → n ≡ region_count item
    → (1 ≤ n) × (at + n ≤ length regions)
takes_some uuid regions at latest n item within next few =
    let l = next.logged in
    let some : n ≡ length (logged_regions l) = few ∙ ap region_count (sym next.item_is) ∙ sym (length-logged_regions l) in
    (omega (arith, some), omega (arith, within, some, length-drop at regions, ap length next.regions_are, length-append (logged_regions l) next.rest))

pub checking_breaks : (uuid : List ℕ) (last : ℕ) (regions : List (List ℕ)) (at latest region : ℕ) (fault : ItemFault) → IsChecking uuid last regions at latest
    → (n : ℕ) × (region ≡ at + n) × IsNextBad uuid latest (drop at regions) n fault → IsBadRegion uuid last regions region fault
checking_breaks uuid last regions at latest region fault t (n, place, bad) =
    let here : length (flat_map logged_regions t.logged) ≡ at = ap length (sym t.taken) ∙ length-take-le at regions t.within in
    let whole : regions ≡ flat_map logged_regions t.logged ++ drop at regions = sym (take-append-drop at regions) ∙ ap (λ (rs : List (List ℕ)). rs ++ drop at regions) t.taken in
    record {
      logged = t.logged;
      good = t.good;
      region = bad.region;
      more = bad.more;
      broken = elim bad.broken [
        | inl first ↦ inl (
          whole ∙ ap (λ (rs : List (List ℕ)). flat_map logged_regions t.logged ++ rs) first.0,
          omega (arith, place, here, first.1),
          subst (λ (m : ℕ). IsBadItem m bad.region fault) t.latest_is first.2,
        )
        | inr second ↦ inr (
          second.0,
          whole ∙ ap (λ (rs : List (List ℕ)). flat_map logged_regions t.logged ++ rs) second.1,
          omega (arith, place, here, second.2),
          subst (λ (m : ℕ). IsBadlyFollowed uuid m second.0 bad.region fault) t.latest_is second.3,
        )
      ];
    }
