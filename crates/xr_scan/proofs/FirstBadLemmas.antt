-- The first bad region of a stream is told in one way, and a stream of good items has none.
use Rattle.std.proofs.Common.{◌≡◌, ℕ, ◌+◌, ◌<◌, ◌∙◌, List, [], ◌∷◌, ◌++◌, length, refl, sym, ap, subst, inl, inr, arith}
use Rattle.std.specs.List.{flat_map}
use Rattle.std.proofs.lemmas.List.{append_assoc, append-nil, length-append}
use Rattle.xr_items.specs.declared.item.Item.{Item}
use Rattle.xr_items.specs.declared.item.Item.TheVariants.{Buf, Inode, Begin, Done}
use Rattle.xr_items.specs.declared.item.ItemFault.{ItemFault}
use Rattle.xr_items.specs.ItemLaws.{never_refused, refused_once}
use Rattle.xr_items.specs.Items.{following, item_bytes}
use Rattle.xr_items.specs.Valid.{IsItem}
use Rattle.xr_record.specs.declared.entry.Entry.{Entry}
use Rattle.xr_record.specs.declared.entry.Entry.TheVariants.{Trans, Unmount}
use Rattle.xr_commit.specs.BadItems.{IsBadFollower, IsBadItem, IsBadRegion, refusal_at}
use Rattle.xr_commit.specs.CheckItems.{IsNextBad}
use Rattle.xr_commit.specs.GoodItems.{EntriesAreGood, IsFollowed, IsGoodItem, ItemsAreGood, RegionsAreGood, Rises, last_after, last_of}
use Rattle.xr_commit.specs.LoggedItems.{Logged, logged_regions}
use Rattle.xr_scan.specs.LoggedItemLaws.{all_whole, first_of, long_follower, one_item, others_of, regions_tell, same_next, whole_item}

-- One item

good_or_bad_item : (last : ℕ) (item : Item) (bytes : List ℕ) (fault : ItemFault) → IsItem item → Rises last item → bytes ≡ item_bytes item → IsBadItem last bytes fault → ⊥
good_or_bad_item last item bytes fault valid rises is (inl refused) = never_refused item bytes fault valid is refused
good_or_bad_item last item bytes fault valid rises is (inr (other, also, are, falls, named)) =
    falls (subst (Rises last) (one_item item other valid also (sym is ∙ are)) rises)

bad_item_once : (last : ℕ) (bytes : List ℕ) (one two : ItemFault) → IsBadItem last bytes one → IsBadItem last bytes two → one ≡ two
bad_item_once last bytes one two (inl a) (inl b) = refused_once bytes one two a b
bad_item_once last bytes one two (inl a) (inr (item, valid, is, falls, named)) = absurd (never_refused item bytes one valid is a)
bad_item_once last bytes one two (inr (item, valid, is, falls, named)) (inl b) = absurd (never_refused item bytes two valid is b)
bad_item_once last bytes one two (inr (item, valid, is, falls, named)) (inr (other, also, are, falls', named')) = named ∙ sym named'

-- refusals name no field, so one field is as good as another
follower_once : (uuid : List ℕ) (item : Item) (bytes : List ℕ) (one two : ItemFault) → IsBadFollower uuid item bytes one → IsBadFollower uuid item bytes two
    → (block : ℕ) → refusal_at one block ≡ refusal_at two block
follower_once uuid item bytes one two (inl (long, named)) (inl (long', named')) block = ap (λ (f : ItemFault). refusal_at f block) (named ∙ sym named')
follower_once uuid item bytes one two (inl (long, named)) (inr (right, other, named')) block = absurd (long right)
follower_once uuid item bytes one two (inr (right, other, named)) (inl (long', named')) block = absurd (long' right)
follower_once uuid item bytes one two (inr (right, other, (p, named))) (inr (right', other', (q, named'))) block = rw (named, named') refl

-- the region after an item's own, where one follows
follower_is : (item : Item) (bytes : List ℕ) (more others : List (List ℕ)) (region : List ℕ) → 0 < following item
    → logged_regions (record { item = item; bytes = bytes }) ++ more ≡ item_bytes item ∷ region ∷ others → bytes ≡ region
follower_is (Buf sector) bytes more others region some e = first_of _ _ _ _ (others_of _ _ _ _ e)
follower_is (Inode ino) bytes more others region some e = first_of _ _ _ _ (others_of _ _ _ _ e)
follower_is (Begin id work) bytes more others region some e = absurd (omega (arith, some))
follower_is (Done id of) bytes more others region some e = absurd (omega (arith, some))

not_both : (uuid : List ℕ) (item : Item) (bytes : List ℕ) (fault : ItemFault) → IsFollowed uuid item bytes → IsBadFollower uuid item bytes fault → ⊥
not_both uuid item bytes fault followed (inl (long, named)) = long (long_follower uuid item bytes followed)
not_both uuid item bytes fault followed (inr (right, other, named)) = other followed

good_or_bad_next : (uuid : List ℕ) (last : ℕ) (l : Logged) (regions more : List (List ℕ)) (n : ℕ) (fault : ItemFault) → IsGoodItem uuid last l
    → regions ≡ logged_regions l ++ more → IsNextBad uuid last regions n fault → ⊥
good_or_bad_next uuid last l regions more n fault good are bad = elim bad.broken [
  | inl (here, place, broken) ↦ good_or_bad_item last l.item bad.region fault good.valid good.rises (first_of _ _ _ _ (sym here ∙ are)) broken
  | inr (item, here, place, broken) ↦
      (let same : item ≡ l.item = one_item item l.item broken.valid good.valid (first_of _ _ _ _ (sym here ∙ are)) in
      let next : logged_regions (record { item = l.item; bytes = l.bytes }) ++ more ≡ item_bytes l.item ∷ bad.region ∷ bad.more =
      sym are ∙ here ∙ ap (λ (i : Item). item_bytes i ∷ bad.region ∷ bad.more) same in
      let bytes : l.bytes ≡ bad.region = follower_is l.item l.bytes more bad.more bad.region (subst (λ (i : Item). 0 < following i) same broken.follows) next in
      not_both uuid l.item l.bytes fault good.followed (subst (λ (bs : List ℕ). IsBadFollower uuid l.item bs fault) (sym bytes) (subst (λ (i : Item). IsBadFollower uuid i bad.region fault) same broken.bad)))
]

-- the place of the first bad region, and what it is refused for
pub record IsSameBad (n m : ℕ) (one two : ItemFault) : Type 0 where
  pub place : n ≡ m
  pub fault : (block : ℕ) → refusal_at one block ≡ refusal_at two block

next_bad_once : (uuid : List ℕ) (last : ℕ) (regions : List (List ℕ)) (n m : ℕ) (one two : ItemFault) → IsNextBad uuid last regions n one → IsNextBad uuid last regions m two
    → IsSameBad n m one two
next_bad_once uuid last regions n m one two a b = elim a.broken [
  | inl (here, place, broken) ↦ elim b.broken [
    | inl (here', place', broken') ↦ (let same : a.region ≡ b.region = first_of _ _ _ _ (sym here ∙ here') in
        let fault : one ≡ two = bad_item_once last b.region one two (subst (λ (bs : List ℕ). IsBadItem last bs one) same broken) broken' in
        record { place = place ∙ sym place'; fault = λ block. ap (λ (f : ItemFault). refusal_at f block) fault })
    | inr (item, here', place', broken') ↦ absurd (good_or_bad_item last item a.region one broken'.valid broken'.rises (first_of _ _ _ _ (sym here ∙ here')) broken)
  ]
  | inr (item, here, place, broken) ↦ elim b.broken [
    | inl (here', place', broken') ↦ absurd (good_or_bad_item last item b.region two broken.valid broken.rises (first_of _ _ _ _ (sym here' ∙ here)) broken')
    | inr (other, here', place', broken') ↦ (let item_is : other ≡ item = one_item other item broken'.valid broken.valid (first_of _ _ _ _ (sym here' ∙ here)) in
        let same : b.region ≡ a.region = first_of _ _ _ _ (others_of _ _ _ _ (sym here' ∙ here)) in
        let also = subst (λ (i : Item). IsBadFollower uuid i a.region two) item_is (subst (λ (bs : List ℕ). IsBadFollower uuid other bs two) same broken'.bad) in
        record { place = place ∙ sym place'; fault = follower_once uuid item a.region one two broken.bad also })
  ]
]

-- Good items, and the first bad region after them

record IsBeyond (ls ms : List Logged) (rest others : List (List ℕ)) : Type 0 where
  pub more : List Logged
  pub all : ms ≡ ls ++ more
  pub left : rest ≡ flat_map logged_regions more ++ others

front_on : (l m : Logged) (ls ms more : List Logged) → l ≡ m → ms ≡ ls ++ more → m ∷ ms ≡ l ∷ (ls ++ more)
front_on l m ls ms more same all = ap (λ (x : Logged). x ∷ ms) (sym same) ∙ ap (λ (xs : List Logged). l ∷ xs) all

beyond : (uuid : List ℕ) (last : ℕ) (ls ms : List Logged) (rest others : List (List ℕ)) (n : ℕ) (fault : ItemFault) → ItemsAreGood uuid last ls → ItemsAreGood uuid last ms
    → flat_map logged_regions ls ++ rest ≡ flat_map logged_regions ms ++ others → IsNextBad uuid (last_of last ms) others n fault → IsBeyond ls ms rest others
beyond uuid last [] ms rest others n fault a b e bad = record { more = ms; all = refl; left = e }
beyond uuid last (l ∷ ls) [] rest others n fault a b e bad =
    let xs : List (List ℕ) = flat_map logged_regions ls ++ rest in
    let whole : flat_map logged_regions (l ∷ ls) ++ rest ≡ logged_regions l ++ xs = append_assoc (logged_regions l) (flat_map logged_regions ls) rest in
    absurd (good_or_bad_next uuid last l others xs n fault a.0 (sym e ∙ whole) bad)
beyond uuid last (l ∷ ls) (m ∷ ms) rest others n fault a b e bad =
    let xs : List (List ℕ) = flat_map logged_regions ls ++ rest in
    let ys : List (List ℕ) = flat_map logged_regions ms ++ others in
    let one : logged_regions l ++ xs ≡ flat_map logged_regions (l ∷ ls) ++ rest = sym (append_assoc (logged_regions l) (flat_map logged_regions ls) rest) in
    let two : flat_map logged_regions (l ∷ ls) ++ rest ≡ logged_regions m ++ ys = e ∙ append_assoc (logged_regions m) (flat_map logged_regions ms) others in
    let both = same_next l m xs ys (whole_item uuid last l a.0) (whole_item uuid last m b.0) (one ∙ two) in
    let good = subst (λ (x : Logged). ItemsAreGood uuid last (x ∷ ms)) (sym both.0) b in
    let next = subst (λ (x : Logged). IsNextBad uuid (last_of last (x ∷ ms)) others n fault) (sym both.0) bad in
    let on = beyond uuid (last_after last l.item) ls ms rest others n fault a.1 good.1 both.1 next in
    record { more = on.more; all = front_on l m ls ms on.more both.0 on.all; left = on.left }

-- a bad region, by the regions that begin with it or with the item before it
record IsBadAfter (uuid : List ℕ) (last : ℕ) (regions : List (List ℕ)) (n : ℕ) (fault : ItemFault) : Type 0 where
  pub logged : List Logged
  pub good : ItemsAreGood uuid last logged
  pub rest : List (List ℕ)
  pub regions_are : regions ≡ flat_map logged_regions logged ++ rest
  pub k : ℕ
  pub place : n ≡ length (flat_map logged_regions logged) + k
  pub next : IsNextBad uuid (last_of last logged) rest k fault

bad_after : (uuid : List ℕ) (last : ℕ) (regions : List (List ℕ)) (n : ℕ) (fault : ItemFault) → IsBadRegion uuid last regions n fault → IsBadAfter uuid last regions n fault
bad_after uuid last regions n fault bad = elim bad.broken [
  | inl (are, place, broken) ↦ record {
    logged = bad.logged;
    good = bad.good;
    rest = bad.region ∷ bad.more;
    regions_are = are;
    k = 0;
    place = omega (arith, place);
    next = record { region = bad.region; more = bad.more; broken = inl (refl, refl, broken) };
  }
  | inr (item, are, place, broken) ↦ record {
    logged = bad.logged;
    good = bad.good;
    rest = item_bytes item ∷ bad.region ∷ bad.more;
    regions_are = are;
    k = 1;
    place = place;
    next = record { region = bad.region; more = bad.more; broken = inr (item, refl, refl, broken) };
  }
]

none_left : (more : List Logged) → length more ≡ 0 → more ≡ []
none_left [] e = refl
none_left (l ∷ more) e = absurd (omega (arith, e))

pub bad_region_once : (uuid : List ℕ) (last : ℕ) (regions : List (List ℕ)) (n m : ℕ) (one two : ItemFault) → IsBadRegion uuid last regions n one
    → IsBadRegion uuid last regions m two → IsSameBad n m one two
bad_region_once uuid last regions n m one two bad also =
    let a = bad_after uuid last regions n one bad in
    let b = bad_after uuid last regions m two also in
    let e = sym a.regions_are ∙ b.regions_are in
    let x = beyond uuid last a.logged b.logged a.rest b.rest b.k two a.good b.good e b.next in
    let y = beyond uuid last b.logged a.logged b.rest a.rest a.k one b.good a.good (sym e) a.next in
    let none : x.more ≡ [] = none_left x.more
    (omega (arith, ap length x.all, length-append a.logged x.more, ap length y.all, length-append b.logged y.more)) in
    let logged : b.logged ≡ a.logged = x.all ∙ ap (λ (ls : List Logged). a.logged ++ ls) none ∙ append-nil a.logged in
    let rest : a.rest ≡ b.rest = x.left ∙ ap (λ (ls : List Logged). flat_map logged_regions ls ++ b.rest) none in
    let same = next_bad_once uuid (last_of last a.logged) b.rest a.k b.k one two
    (subst (λ (rs : List (List ℕ)). IsNextBad uuid (last_of last a.logged) rs a.k one) rest a.next)
    (subst (λ (ls : List Logged). IsNextBad uuid (last_of last ls) b.rest b.k two) logged b.next) in
    record {
      place = omega (arith, a.place, b.place, same.place, ap (λ (ls : List Logged). length (flat_map logged_regions ls)) logged);
      fault = same.fault;
    }

some_bad : (uuid : List ℕ) (last : ℕ) (rest : List (List ℕ)) (n : ℕ) (fault : ItemFault) → IsNextBad uuid last rest n fault → 0 < length rest
some_bad uuid last rest n fault bad = elim bad.broken [
  | inl (are, place, broken) ↦ omega (arith, ap length are)
  | inr (item, are, place, broken) ↦ omega (arith, ap length are)
]

pub good_or_bad_region : (uuid : List ℕ) (last last' : ℕ) (regions : List (List ℕ)) (n : ℕ) (fault : ItemFault) → RegionsAreGood uuid last regions last'
    → IsBadRegion uuid last regions n fault → ⊥
good_or_bad_region uuid last last' regions n fault good bad =
    let b = bad_after uuid last regions n fault bad in
    let x = beyond uuid last good.logged b.logged [] b.rest b.k fault good.good b.good
    (append-nil (flat_map logged_regions good.logged) ∙ sym good.regions_are ∙ b.regions_are) b.next in
    absurd (omega (arith, some_bad uuid (last_of last b.logged) b.rest b.k fault b.next, ap length x.left, length-append (flat_map logged_regions x.more) b.rest))

-- Entries

pub one_last : (uuid : List ℕ) (last : ℕ) (entries : List Entry) (m n : ℕ) → EntriesAreGood uuid last entries m → EntriesAreGood uuid last entries n → m ≡ n
one_last uuid last [] m n a b = a ∙ sym b
one_last uuid last (Unmount ∷ entries) m n a b = one_last uuid last entries m n a b
one_last uuid last (Trans tid regions ∷ entries) m n (mid, own, more) (mid', own', more') =
    let logged : own.logged ≡ own'.logged = regions_tell own.logged own'.logged (all_whole uuid last own.logged own.good) (all_whole uuid last own'.logged own'.good)
    (sym own.regions_are ∙ own'.regions_are) in
    let same : mid ≡ mid' = own.last_is ∙ ap (last_of last) logged ∙ sym own'.last_is in
    one_last uuid mid' entries m n (subst (λ (k : ℕ). EntriesAreGood uuid k entries m) same more) more'

-- a transaction among good entries is good
pub record GoodAt (uuid : List ℕ) (last : ℕ) (before : List Entry) (regions : List (List ℕ)) : Type 0 where
  pub mid : ℕ
  pub end : ℕ
  pub front : EntriesAreGood uuid last before mid
  pub own : RegionsAreGood uuid mid regions end

pub good_at : (uuid : List ℕ) (last : ℕ) (before : List Entry) (tid : ℕ) (regions : List (List ℕ)) (after : List Entry) (n : ℕ)
    → EntriesAreGood uuid last (before ++ Trans tid regions ∷ after) n → GoodAt uuid last before regions
good_at uuid last [] tid regions after n good = record { mid = last; end = good.0; front = refl; own = good.1 }
good_at uuid last (Unmount ∷ before) tid regions after n good =
    let rest = good_at uuid last before tid regions after n good in record { mid = rest.mid; end = rest.end; front = rest.front; own = rest.own }
good_at uuid last (Trans own_tid own ∷ before) tid regions after n (mid, first, good) =
    let rest = good_at uuid mid before tid regions after n good in record { mid = rest.mid; end = rest.end; front = (mid, first, rest.front); own = rest.own }
