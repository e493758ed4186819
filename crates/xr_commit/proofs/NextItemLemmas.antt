-- What the test of the next item comes to, from the tests of its regions.
use Rattle.std.proofs.Common.{◌≡◌, ℕ, zero, suc, ◌+◌, ◌<◌, ◌∙◌, true, List, [], ◌∷◌, ◌++◌, length, get_or, drop, refl, sym, ap, subst, inl, inr, arith}
use Rattle.std.proofs.lemmas.List.{drop_more, length-drop}
use Rattle.xr_items.specs.declared.item.Item.{Item}
use Rattle.xr_items.specs.declared.item.Item.TheVariants.{Buf, Inode, Begin, Done}
use Rattle.xr_items.specs.Items.{following, item_bytes}
use Rattle.xr_items.specs.Valid.{IsItem}
use Rattle.xr_record.specs.Stream.{are_items}
use Rattle.xr_items.specs.declared.item.ItemFault.{ItemFault}
use Rattle.xr_commit.specs.BadItems.{IsBadFollower, IsBadItem}
use Rattle.xr_commit.specs.GoodItems.{IsFollowed, Rises}
use Rattle.xr_commit.specs.LoggedItems.{logged_regions}
use Rattle.xr_commit.specs.CheckItems.{IsNextBad, IsNextGood}
use Rattle.xr_commit.proofs.PartLemmas.{after_format, one_follows}

-- the region at a place, and those after it
pub at_place : (regions : List (List ℕ)) (at : ℕ) (region : List ℕ) → at < length regions → region ≡ get_or regions at region → drop at regions ≡ region ∷ drop (at + 1) regions
at_place regions at region within is = drop_more regions at region within ∙ ap (λ (r : List ℕ). r ∷ drop (at + 1) regions) (sym is)

pub bad_here : (uuid : List ℕ) (last : ℕ) (regions : List (List ℕ)) (at : ℕ) (region : List ℕ) (fault : ItemFault) → at < length regions → region ≡ get_or regions at region
    → IsBadItem last region fault → (n : ℕ) × (at ≡ at + n) × IsNextBad uuid last (drop at regions) n fault
bad_here uuid last regions at region fault within is bad =
    (0, omega arith, record { region = region; more = drop (at + 1) regions; broken = inl (at_place regions at region within is, refl, bad) })

none_after : (uuid : List ℕ) (item : Item) → following item ≡ 0 → IsFollowed uuid item []
none_after uuid (Buf sector) none = absurd (omega (arith, none))
none_after uuid (Inode ino) none = absurd (omega (arith, none))
none_after uuid (Begin id work) none = refl
none_after uuid (Done id done) none = refl

alone : (item : Item) → following item ≡ 0 → logged_regions (record { item = item; bytes = [] }) ≡ item_bytes item ∷ []
alone (Buf sector) none = absurd (omega (arith, none))
alone (Inode ino) none = absurd (omega (arith, none))
alone (Begin id work) none = refl
alone (Done id done) none = refl

with_follower : (item : Item) (bytes : List ℕ) → 0 < following item → logged_regions (record { item = item; bytes = bytes }) ≡ item_bytes item ∷ bytes ∷ []
with_follower (Buf sector) bytes some = refl
with_follower (Inode ino) bytes some = refl
with_follower (Begin id work) bytes some = absurd (omega (arith, some))
with_follower (Done id done) bytes some = absurd (omega (arith, some))

pub good_alone : (uuid : List ℕ) (last : ℕ) (regions : List (List ℕ)) (at : ℕ) (region : List ℕ) (item : Item) → at < length regions → region ≡ get_or regions at region
    → IsItem item × (region ≡ item_bytes item) × Rises last item → following item ≡ 0 → IsNextGood uuid last (drop at regions) item
good_alone uuid last regions at region item within is format none = record {
  logged = record { item = item; bytes = [] };
  item_is = refl;
  good = record { valid = format.0; rises = format.2; followed = none_after uuid item none };
  rest = drop (at + 1) regions;
  regions_are = at_place regions at region within is
      ∙ ap (λ (rs : List (List ℕ)). rs ++ drop (at + 1) regions) (ap (λ (r : List ℕ). r ∷ []) format.1 ∙ sym (alone item none));
}

-- where a region has to follow, one does
pub follower_within : (last : ℕ) (regions : List (List ℕ)) (at : ℕ) (region : List ℕ) (item : Item) → at < length regions → region ≡ get_or regions at region
    → IsItem item × (region ≡ item_bytes item) × Rises last item → 0 < following item → are_items (drop at regions) ≡ true → at + 1 < length regions
follower_within last regions at region item within is format some parted =
    let begins = at_place regions at region within is ∙ ap (λ (r : List ℕ). r ∷ drop (at + 1) regions) format.1 in
    let next = one_follows item (drop (at + 1) regions) some (after_format item (drop (at + 1) regions) format.0 (subst (λ (rs : List (List ℕ)). are_items rs ≡ true) begins parted)) in
    omega (arith, length-drop (at + 1) regions, ap length next.2)

followed_place : (regions : List (List ℕ)) (at : ℕ) (region after : List ℕ) (item : Item) → at + 1 < length regions → region ≡ get_or regions at region → region ≡ item_bytes item
    → after ≡ get_or regions (at + 1) after → drop at regions ≡ item_bytes item ∷ after ∷ drop (at + 1 + 1) regions
followed_place regions at region after item within is format next =
    at_place regions at region (omega (arith, within)) is ∙ ap (λ (r : List ℕ). r ∷ drop (at + 1) regions) format
    ∙ ap (λ (rs : List (List ℕ)). item_bytes item ∷ rs) (at_place regions (at + 1) after within next)

pub good_followed : (uuid : List ℕ) (last : ℕ) (regions : List (List ℕ)) (at : ℕ) (region after : List ℕ) (item : Item) → at + 1 < length regions → region ≡ get_or regions at region
    → IsItem item × (region ≡ item_bytes item) × Rises last item → 0 < following item → after ≡ get_or regions (at + 1) after → IsFollowed uuid item after
    → IsNextGood uuid last (drop at regions) item
good_followed uuid last regions at region after item within is format some next followed = record {
  logged = record { item = item; bytes = after };
  item_is = refl;
  good = record { valid = format.0; rises = format.2; followed = followed };
  rest = drop (at + 1 + 1) regions;
  regions_are = followed_place regions at region after item within is format.1 next
      ∙ ap (λ (rs : List (List ℕ)). rs ++ drop (at + 1 + 1) regions) (sym (with_follower item after some));
}

pub bad_follower : (uuid : List ℕ) (last : ℕ) (regions : List (List ℕ)) (at : ℕ) (region after : List ℕ) (item : Item) (fault : ItemFault) → at + 1 < length regions
    → region ≡ get_or regions at region → IsItem item × (region ≡ item_bytes item) × Rises last item → 0 < following item → after ≡ get_or regions (at + 1) after
    → IsBadFollower uuid item after fault → (n : ℕ) × (at + 1 ≡ at + n) × IsNextBad uuid last (drop at regions) n fault
bad_follower uuid last regions at region after item fault within is format some next bad = (
  1,
  refl,
  record {
    region = after;
    more = drop (at + 1 + 1) regions;
    broken = inr (item, followed_place regions at region after item within is format.1 next, refl, record { valid = format.0; rises = format.2; follows = some; bad = bad });
  },
)

pub some_follow : (n len : ℕ) → n ≡ len → (n ≡ 0 → ⊥) → 0 < len
some_follow n zero same some = absurd (some same)
some_follow n (suc len) same some = omega arith
