-- The items that a live stream logs.
use Rattle.std.proofs.Common.{◌≡◌, ℕ, ◌∙◌, List, [], ◌∷◌, ◌++◌, length, get_or, drop, refl, sym, ap, subst, arith}
use Rattle.std.specs.List.{AllByRecursion, flat_map}
use Rattle.xr_headers.specs.HeaderLaws.{length-core_bytes}
use Rattle.xr_items.specs.declared.item.Item.{Item}
use Rattle.xr_items.specs.declared.item.Item.TheVariants.{Buf, Inode, Begin, Done}
use Rattle.xr_items.specs.Items.{following, item_bytes, kind_of}
use Rattle.xr_items.specs.ItemLaws.{framed_item, held_item, same_item, same_kind_of}
use Rattle.xr_items.specs.Valid.{IsItem}
use Rattle.xr_record.specs.declared.entry.Entry.{Entry}
use Rattle.xr_record.specs.declared.entry.Entry.TheVariants.{Trans, Unmount}
use Rattle.xr_commit.specs.GoodItems.{EntriesAreGood, IsFollowed, IsGoodItem, ItemsAreGood, last_after, last_of}
use Rattle.xr_commit.specs.LoggedItems.{Logged, logged_regions}
use Rattle.xr_scan.specs.LoggedEntries.{IsWholeItem, LogAll}
use Rattle.xr_scan.specs.LoggedLaws.{IsOneLogging, LiveLogsItems, LoggedAreGood}

pub one_item : (one two : Item) → IsItem one → IsItem two → item_bytes one ≡ item_bytes two → one ≡ two
one_item one two valid also same =
    let bytes : List ℕ = item_bytes one in
    let kind = same_kind_of bytes (kind_of one) (kind_of two) (framed_item one bytes valid refl).of_kind (framed_item two bytes also same).of_kind in
    same_item one two bytes kind (held_item one bytes valid refl).1.1 (held_item two bytes also same).1.1

pub first_of : (xs ys : List (List ℕ)) (x y : List ℕ) → x ∷ xs ≡ y ∷ ys → x ≡ y
first_of xs ys x y e = ap (λ (rs : List (List ℕ)). get_or rs 0 x) e

pub others_of : (xs ys : List (List ℕ)) (x y : List ℕ) → x ∷ xs ≡ y ∷ ys → xs ≡ ys
others_of xs ys x y e = ap (λ (rs : List (List ℕ)). drop 1 rs) e

none_both : (b d : List ℕ) → length b ≡ 0 → length d ≡ 0 → b ≡ d
none_both [] [] p q = refl
none_both [] (x ∷ d) p q = absurd (omega (arith, q))
none_both (x ∷ b) d p q = absurd (omega (arith, p))

abbrev one : Item → List ℕ → Logged
one item bytes = record { item = item; bytes = bytes }

-- what follows an item, and the regions after it
parts : (item : Item) (b d : List ℕ) (xs ys : List (List ℕ)) → length b ≡ following item → length d ≡ following item
    → logged_regions (one item b) ++ xs ≡ logged_regions (one item d) ++ ys → (b ≡ d) × (xs ≡ ys)
parts (Buf sector) b d xs ys p q e = let rest = others_of _ _ _ _ e in (first_of _ _ _ _ rest, others_of _ _ _ _ rest)
parts (Inode ino) b d xs ys p q e = let rest = others_of _ _ _ _ e in (first_of _ _ _ _ rest, others_of _ _ _ _ rest)
parts (Begin id work) b d xs ys p q e = (none_both b d p q, others_of _ _ _ _ e)
parts (Done id of) b d xs ys p q e = (none_both b d p q, others_of _ _ _ _ e)

same_logged : (l m : Logged) → l.item ≡ m.item → l.bytes ≡ m.bytes → l ≡ m
same_logged l m p q = λ i. record { item = p i; bytes = q i }

-- the next item, with what follows it, and the regions after both
pub same_next : (l m : Logged) (xs ys : List (List ℕ)) → IsWholeItem l → IsWholeItem m → logged_regions l ++ xs ≡ logged_regions m ++ ys → (l ≡ m) × (xs ≡ ys)
same_next l m xs ys a b e =
    let item : l.item ≡ m.item = one_item l.item m.item a.valid b.valid (first_of _ _ _ _ e) in
    let whole = subst (λ (i : Item). logged_regions (one l.item l.bytes) ++ xs ≡ logged_regions (one i m.bytes) ++ ys) (sym item) e in
    let rest = parts l.item l.bytes m.bytes xs ys a.long (subst (λ (i : Item). length m.bytes ≡ following i) (sym item) b.long) whole in
    (same_logged l m item rest.0, rest.1)

-- the regions tell the items, and what follows them
pub regions_tell : (ls ms : List Logged) → AllByRecursion IsWholeItem ls → AllByRecursion IsWholeItem ms → flat_map logged_regions ls ≡ flat_map logged_regions ms → ls ≡ ms
regions_tell [] [] a b e = refl
regions_tell [] (m ∷ ms) a b e = absurd (cc)
regions_tell (l ∷ ls) [] a b e = absurd (cc)
regions_tell (l ∷ ls) (m ∷ ms) a b e =
    let both = same_next l m (flat_map logged_regions ls) (flat_map logged_regions ms) a.0 b.0 e in
    ap (λ (x : Logged). x ∷ ls) both.0 ∙ ap (λ (xs : List Logged). m ∷ xs) (regions_tell ls ms a.1 b.1 both.1)

pub one_logging : IsOneLogging
one_logging [] ls ms a b = a ∙ sym b
one_logging (Unmount ∷ entries) ls ms a b = one_logging entries ls ms a b
one_logging (Trans tid regions ∷ entries) ls ms (f, o, are, logs, more) (g, p, also, logged, others) =
    rw (are, also, regions_tell f g logs.whole logged.whole (sym logs.regions_are ∙ logged.regions_are), one_logging entries o p more others) refl

-- Entries that were tested log good items

pub long_follower : (uuid : List ℕ) (item : Item) (bytes : List ℕ) → IsFollowed uuid item bytes → length bytes ≡ following item
long_follower uuid (Buf sector) bytes followed = followed
long_follower uuid (Inode ino) bytes followed = ap length followed.bytes_are ∙ length-core_bytes followed.core
long_follower uuid (Begin id work) bytes followed = ap length followed
long_follower uuid (Done id of) bytes followed = ap length followed

pub whole_item : (uuid : List ℕ) (last : ℕ) (l : Logged) → IsGoodItem uuid last l → IsWholeItem l
whole_item uuid last l good = record { valid = good.valid; long = long_follower uuid l.item l.bytes good.followed }

pub all_whole : (uuid : List ℕ) (last : ℕ) (ls : List Logged) → ItemsAreGood uuid last ls → AllByRecursion IsWholeItem ls
all_whole uuid last [] good = tt
all_whole uuid last (l ∷ ls) good = (whole_item uuid last l good.0, all_whole uuid (last_after last l.item) ls good.1)

good_append : (uuid : List ℕ) (last : ℕ) (ls ms : List Logged) → ItemsAreGood uuid last ls → ItemsAreGood uuid (last_of last ls) ms → ItemsAreGood uuid last (ls ++ ms)
good_append uuid last [] ms a b = b
good_append uuid last (l ∷ ls) ms a b = (a.0, good_append uuid (last_after last l.item) ls ms a.1 b)

pub record LogGood (uuid : List ℕ) (last : ℕ) (entries : List Entry) : Type 0 where
  pub logged : List Logged
  pub log_all : LogAll entries logged
  pub good : ItemsAreGood uuid last logged

pub log_good : (uuid : List ℕ) (last : ℕ) (entries : List Entry) (last' : ℕ) → EntriesAreGood uuid last entries last' → LogGood uuid last entries
log_good uuid last [] last' good = record { logged = []; log_all = refl; good = tt }
log_good uuid last (Unmount ∷ entries) last' good =
    let rest = log_good uuid last entries last' good in record { logged = rest.logged; log_all = rest.log_all; good = rest.good }
log_good uuid last (Trans tid regions ∷ entries) last' (mid, own, good) =
    let rest = log_good uuid mid entries last' good in
    record {
      logged = own.logged ++ rest.logged;
      log_all = (own.logged, rest.logged, refl, record { whole = all_whole uuid last own.logged own.good; regions_are = own.regions_are }, rest.log_all);
      good = good_append uuid last own.logged rest.logged own.good (subst (λ (n : ℕ). ItemsAreGood uuid n rest.logged) own.last_is rest.good);
    }

pub live_logs_items : LiveLogsItems
live_logs_items uuid log heads entries live = let found = log_good uuid 0 entries live.last live.items in (found.logged, found.log_all)

pub logged_are_good : LoggedAreGood
logged_are_good uuid log heads entries logged live log_all =
    let found = log_good uuid 0 entries live.last live.items in
    subst (ItemsAreGood uuid 0) (one_logging entries found.logged logged found.log_all log_all) found.good
