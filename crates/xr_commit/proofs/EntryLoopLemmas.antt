-- The items of all entries, tested one entry after another.
use Rattle.std.proofs.Common.{◌≡◌, ℕ, zero, suc, ◌+◌, ◌*◌, ◌<◌, ◌≤◌, ◌^◌, ◌∙◌, false, Some, List, [], ◌∷◌, ◌++◌, length, get_or, take, drop, map, refl, sym, ap, subst, inl, inr, arith}
use Rattle.std.specs.List.{AllByRecursion, flat_map}
use Rattle.std.proofs.lemmas.List.{length-append, take_all, take_more}
use Rattle.std.proofs.Math.Seq.{split_at}
use Rattle.xr_items.specs.Items.{item_bytes}
use Rattle.xr_record.specs.declared.entry.Entry.{Entry}
use Rattle.xr_record.specs.declared.entry.Entry.TheVariants.{Trans, Unmount}
use Rattle.xr_record.specs.Stream.{IsPiece, Piece, Transaction, Unmounting, entry}
use Rattle.xr_commit.specs.declared.fault.ScanFault.{ScanFault}
use Rattle.xr_items.specs.declared.item.ItemFault.{ItemFault}
use Rattle.xr_commit.specs.Entries.{HasEntries}
use Rattle.xr_commit.specs.BadItems.{BreaksItems, refusal_at}
use Rattle.xr_commit.specs.GoodItems.{EntriesAreGood}
use Rattle.xr_commit.specs.RegionHomes.{home_of_region, regions_in}
use Rattle.xr_commit.specs.LoggedItems.{logged_regions}
use Rattle.xr_commit.specs.LogRecords.{LogRecord}
use Rattle.xr_commit.specs.CheckItems.{IsBadEntry, HasWholeItems}
use Rattle.xr_commit.proofs.RegionCountLemmas.{region_begins}

piece_parted : (p : Piece) → IsPiece p → HasWholeItems (entry p)
piece_parted (Transaction t) is = is.items
piece_parted Unmounting is = tt

pieces_parted : (pieces : List Piece) (i : ℕ) (d : Entry) → AllByRecursion IsPiece pieces → i < length (map entry pieces) → HasWholeItems (get_or (map entry pieces) i d)
pieces_parted [] i d all within = absurd (omega (arith, within))
pieces_parted (p ∷ pieces) zero d all within = piece_parted p all.0
pieces_parted (p ∷ pieces) (suc i) d all within = pieces_parted pieces i d all.1 (omega (arith, within))

-- the regions of an entry of the stream part into items
pub parted_at : (records : List LogRecord) (entries : List Entry) (i : ℕ) (e : Entry) → HasEntries records entries → i < length entries → e ≡ get_or entries i e → HasWholeItems e
parted_at records entries i e said within is =
    subst HasWholeItems (sym (is ∙ ap (λ (es : List Entry). get_or es i e) said.entries_are))
    (pieces_parted said.pieces i e said.stream.each (subst (λ (es : List Entry). i < length es) said.entries_are within))

good_more : (uuid : List ℕ) (last mid last' : ℕ) (xs ys : List Entry) → EntriesAreGood uuid last xs mid → EntriesAreGood uuid mid ys last' → EntriesAreGood uuid last (xs ++ ys) last'
good_more uuid last mid last' [] ys before after = subst (λ (m : ℕ). EntriesAreGood uuid m ys last') before after
good_more uuid last mid last' (Unmount ∷ xs) ys before after = good_more uuid last mid last' xs ys before after
good_more uuid last mid last' (Trans tid regions ∷ xs) ys before after = (before.0, before.1, good_more uuid before.0 mid last' xs ys before.2 after)

regions_more : (xs ys : List Entry) → regions_in (xs ++ ys) ≡ regions_in xs + regions_in ys
regions_more [] ys = omega arith
regions_more (Unmount ∷ xs) ys = regions_more xs ys
regions_more (Trans tid regions ∷ xs) ys = let e = regions_more xs ys in omega (arith, e)

-- the entries before a place have good items, and so many regions
pub record IsItemLoop (uuid : List ℕ) (entries : List Entry) (i last before : ℕ) : Type 0 where
  pub good : EntriesAreGood uuid 0 (take i entries) last
  pub counted : before ≡ regions_in (take i entries)
  pub few : before ≤ i * 2 ^ 64

pub loop_begins : (uuid : List ℕ) (entries : List Entry) → IsItemLoop uuid entries 0 0 0
loop_begins uuid entries = record { good = refl; counted = refl; few = omega arith }

pub loop_on : (uuid : List ℕ) (entries : List Entry) (i last before n last' : ℕ) (e : Entry) → IsItemLoop uuid entries i last before → i < length entries → e ≡ get_or entries i e
    → EntriesAreGood uuid last (e ∷ []) last' → n ≡ regions_in (e ∷ []) → n < 2 ^ 64 → IsItemLoop uuid entries (i + 1) last' (before + n)
loop_on uuid entries i last before n last' e l within is good number small =
    let more : take (i + 1) entries ≡ take i entries ++ e ∷ [] = take_more entries i e within ∙ ap (λ (x : Entry). take i entries ++ x ∷ []) (sym is) in
    record {
      good = subst (λ (es : List Entry). EntriesAreGood uuid 0 es last') (sym more) (good_more uuid 0 last last' (take i entries) (e ∷ []) l.good good);
      counted = let s = regions_more (take i entries) (e ∷ []) in omega (arith, l.counted, number, s, ap regions_in more);
      few = omega (arith, l.few, small);
    }

pub loop_ends : (uuid : List ℕ) (entries : List Entry) (i last before : ℕ) → IsItemLoop uuid entries i last before → length entries ≤ i → (top : ℕ) × EntriesAreGood uuid 0 entries top
loop_ends uuid entries i last before l over = (last, subst (λ (es : List Entry). EntriesAreGood uuid 0 es last) (take_all i entries over) l.good)

bad_within : (uuid : List ℕ) (last : ℕ) (e : Entry) (n : ℕ) (why : ItemFault) → IsBadEntry uuid last e n why → n < regions_in (e ∷ [])
bad_within uuid last (Trans tid regions) n why bad =
    let front : List (List ℕ) = flat_map logged_regions bad.logged in
    elim bad.broken [
      | inl first ↦ omega (arith, ap length first.0, length-append front (bad.region ∷ bad.more), first.1)
      | inr second ↦ omega (arith, ap length second.1, length-append front (item_bytes second.0 ∷ bad.region ∷ bad.more), second.2)
    ]
bad_within uuid last Unmount n why bad = absurd bad

around : (entries : List Entry) (i : ℕ) (e : Entry) → i < length entries → e ≡ get_or entries i e → entries ≡ take i entries ++ e ∷ drop (suc i) entries
around entries i e within is = split_at entries i e within ∙ ap (λ (x : Entry). take i entries ++ x ∷ drop (suc i) entries) (sym is)

-- a bad region begins in a record
pub bad_begins : (uuid : List ℕ) (records : List LogRecord) (entries : List Entry) (i last before n : ℕ) (e : Entry) (why : ItemFault) → IsItemLoop uuid entries i last before
    → i < length entries → e ≡ get_or entries i e → IsBadEntry uuid last e n why → HasEntries records entries → (block : ℕ) × (home_of_region false records (before + n) ≡ Some block)
bad_begins uuid records entries i last before n e why l within is bad said =
    let whole = ap regions_in (around entries i e within is) ∙ regions_more (take i entries) (e ∷ drop (suc i) entries) in
    let tail = regions_more (e ∷ []) (drop (suc i) entries) in
    region_begins records entries (before + n) said (omega (arith, whole, tail, l.counted, bad_within uuid last e n why bad))

pub items_break : (uuid : List ℕ) (records : List LogRecord) (entries : List Entry) (i last before n block : ℕ) (e : Entry) (why : ItemFault) (fault : ScanFault)
    → IsItemLoop uuid entries i last before → i < length entries → e ≡ get_or entries i e → IsBadEntry uuid last e n why → HasEntries records entries
    → home_of_region false records (before + n) ≡ Some block → fault ≡ refusal_at why block → BreaksItems uuid records fault
items_break uuid records entries i last before n block Unmount why fault l within is bad said home named = absurd bad
items_break uuid records entries i last before n block (Trans tid regions) why fault l within is bad said home named = record {
  entries = entries;
  said = said;
  before = take i entries;
  tid = tid;
  regions = regions;
  after = drop (suc i) entries;
  entries_are = around entries i (Trans tid regions) within is;
  last = last;
  good = l.good;
  n = n;
  why = why;
  bad = bad;
  block = block;
  home = ap (λ (m : ℕ). home_of_region false records (m + n)) (sym l.counted) ∙ home;
  named = named;
}
