-- What operations fill one after another, from any record on.
use Rattle.std.proofs.Common.{◌≡◌, inl, inr, ℕ, zero, suc, ◌+◌, ◌-◌, ◌<◌, ◌≤◌, ◌∙◌, Bool, true, false, nat_lt, List, [], ◌∷◌, ◌++◌, length, take, get_or, refl, sym, ap, arith}
use Rattle.std.specs.Prelude.{◌==◌, if◌then◌else◌, All}
use Rattle.std.specs.List.{AllByRecursion, flat_map}
use Rattle.std.proofs.lemmas.Bool.{cases_lt}
use Rattle.std.proofs.lemmas.List.{append-nil, length-append, map-append, take_all, take_more}
use Rattle.std.proofs.lemmas.List.Concat.{flat_map-append}
use Rattle.xr_items.specs.declared.item.Item.{Item}
use Rattle.xr_items.specs.declared.item.Item.TheVariants.{Buf, Inode, Begin, Done}
use Rattle.xr_items.specs.declared.trans.Logged.{Logged as Changed}
use Rattle.xr_items.specs.Items.{following, item_bytes}
use Rattle.xr_items.specs.Valid.{IsItem}
use Rattle.xr_commit.specs.ItemsOf.{region_count}
use Rattle.xr_commit.specs.LoggedItems.{Logged, logged_regions}
use Rattle.xr_scan.specs.LoggedEntries.{IsWholeItem}
use Rattle.xr_log.specs.declared.packing.Fill.{Fill}
use Rattle.xr_log.specs.declared.transaction.Planned.{Planned}
use Rattle.xr_log.specs.Filling.{filled_end, filled_region, filled_regions, filled_whole, with_room}
use Rattle.xr_log.specs.TransactionItems.{image_at, logged_in, logged_of}

-- so many records more
abbrev pub shifted : ℕ → Fill → Fill
shifted n f = record { records = n + f.records; len = f.len }

-- What is filled doesn't depend on how many records were filled before, and it is no less.
pub record IsFilling (g : Fill → Fill) : Type 0 where
  pub shifts : (n : ℕ) (f : Fill) → g (shifted n f) ≡ shifted n (g f)
  pub rises : (f : Fill) → f.records ≤ (g f).records

room_by : (b : Bool) (n : ℕ) (f : Fill)
    → (if b then (let x : Fill = record { records = n + f.records + 1; len = 0 } in x) else shifted n f) ≡ shifted n (if b then (record { records = f.records + 1; len = 0 }) else f)
room_by true n f = ap (λ (r : ℕ). let x : Fill = record { records = r; len = 0 } in x) (let e : n + f.records + 1 ≡ n + (f.records + 1) = omega arith in e)
room_by false n f = refl

room_shifts : (need n : ℕ) (f : Fill) → with_room need (shifted n f) ≡ shifted n (with_room need f)
room_shifts need n f = room_by (nat_lt 32768 (f.len + need)) n f

room_rises_by : (b : Bool) (f : Fill) → f.records ≤ (if b then (let x : Fill = record { records = f.records + 1; len = 0 } in x) else f).records
room_rises_by true f = omega arith
room_rises_by false f = omega arith

room_rises : (need : ℕ) (f : Fill) → f.records ≤ (with_room need f).records
room_rises need f = room_rises_by (nat_lt 32768 (f.len + need)) f

pub whole_filling : (bytes : ℕ) → IsFilling (filled_whole bytes)
whole_filling bytes = record {
  shifts = λ n f. ap (λ (before : Fill). let x : Fill = record { records = before.records; len = before.len + (12 + bytes) } in x) (room_shifts (12 + bytes) n f);
  rises = λ f. room_rises (12 + bytes) f;
}

end_by : (b : Bool) (n end : ℕ) (f : Fill)
    → (if b then (let x : Fill = record { records = n + f.records + 1; len = 12 + (end - 32768) } in x) else (record { records = n + f.records; len = end }))
    ≡ shifted n (if b then (record { records = f.records + 1; len = 12 + (end - 32768) }) else (record { records = f.records; len = end }))
end_by true n end f =
    ap (λ (r : ℕ). let x : Fill = record { records = r; len = 12 + (end - 32768) } in x) (let e : n + f.records + 1 ≡ n + (f.records + 1) = omega arith in e)
end_by false n end f = refl

end_rises : (b : Bool) (end : ℕ) (f : Fill)
    → f.records ≤ (if b then (let x : Fill = record { records = f.records + 1; len = 12 + (end - 32768) } in x) else (record { records = f.records; len = end })).records
end_rises true end f = omega arith
end_rises false end f = omega arith

pub region_filling : (bytes : ℕ) → IsFilling (filled_region bytes)
region_filling bytes = record {
  shifts = λ n f.
      ap (λ (before : Fill). filled_end before (before.len + (12 + bytes))) (room_shifts 13 n f)
      ∙ end_by (nat_lt 32768 ((with_room 13 f).len + (12 + bytes))) n ((with_room 13 f).len + (12 + bytes)) (with_room 13 f);
  rises = λ f.
      (let a = room_rises 13 f in
      let b = end_rises (nat_lt 32768 ((with_room 13 f).len + (12 + bytes))) ((with_room 13 f).len + (12 + bytes)) (with_room 13 f) in
      omega (arith, a, b));
}

regions_shift : (regions : List (List ℕ)) (n : ℕ) (f : Fill) → filled_regions regions (shifted n f) ≡ shifted n (filled_regions regions f)
regions_shift [] n f = refl
regions_shift (region ∷ regions) n f =
    ap (filled_regions regions) ((region_filling (length region)).shifts n f) ∙ regions_shift regions n (filled_region (length region) f)

regions_rise : (regions : List (List ℕ)) (f : Fill) → f.records ≤ (filled_regions regions f).records
regions_rise [] f = omega arith
regions_rise (region ∷ regions) f =
    let a = (region_filling (length region)).rises f in
    let b = regions_rise regions (filled_region (length region) f) in
    omega (arith, a, b)

pub regions_filling : (regions : List (List ℕ)) → IsFilling (filled_regions regions)
regions_filling regions = record { shifts = regions_shift regions; rises = regions_rise regions }

pub filled-append : (xs ys : List (List ℕ)) (f : Fill) → filled_regions (xs ++ ys) f ≡ filled_regions ys (filled_regions xs f)
filled-append [] ys f = refl
filled-append (x ∷ xs) ys f = filled-append xs ys (filled_region (length x) f)

-- the same filling from another record on, with a body of the same length
shifted_to : (f g : Fill) → g.len ≡ f.len → g.records ≡ 0 → f ≡ shifted f.records g
shifted_to f g len none =
    ap (λ (n : ℕ). let x : Fill = record { records = n; len = f.len } in x) (let e : f.records ≡ f.records + g.records = omega (arith, none) in e)
    ∙ ap (λ (n : ℕ). let x : Fill = record { records = f.records + g.records; len = n } in x) (sym len)

pub from_middle : (h : Fill → Fill) → IsFilling h → (f g : Fill) → g.len ≡ f.len → g.records ≡ 0 → h f ≡ shifted f.records (h g)
from_middle h is f g len none = ap h (shifted_to f g len none) ∙ is.shifts f.records g

-- the regions of a plan's items, as they come

pub regions_of_more : (blocks : List Changed) (plan : List Planned) (i : ℕ) (d : Planned) → i < length plan
    → flat_map logged_regions (logged_in blocks (take (i + 1) plan))
    ≡ flat_map logged_regions (logged_in blocks (take i plan)) ++ logged_regions (logged_of blocks (get_or plan i d))
regions_of_more blocks plan i d below =
    ap (λ (ps : List Planned). flat_map logged_regions (logged_in blocks ps)) (take_more plan i d below)
    ∙ ap (λ (ls : List Logged). flat_map logged_regions ls) (map-append (logged_of blocks) (take i plan) (get_or plan i d ∷ []))
    ∙ flat_map-append logged_regions (logged_in blocks (take i plan)) (logged_of blocks (get_or plan i d) ∷ [])
    ∙ ap (λ (rs : List (List ℕ)). flat_map logged_regions (logged_in blocks (take i plan)) ++ rs) (append-nil (logged_regions (logged_of blocks (get_or plan i d))))

pub whole_at : (blocks : List Changed) (plan : List Planned) (i : ℕ) (d : Planned) → i < length plan → AllByRecursion IsWholeItem (logged_in blocks plan)
    → IsWholeItem (logged_of blocks (get_or plan i d))
whole_at blocks [] i d below whole = absurd (omega (arith, below))
whole_at blocks (p ∷ ps) zero d below whole = whole.0
whole_at blocks (p ∷ ps) (suc i) d below whole = whole_at blocks ps i d (omega (arith, below)) whole.1

-- and items whose regions are whole are valid
pub whole_items : (blocks : List Changed) (plan : List Planned) → AllByRecursion IsWholeItem (logged_in blocks plan) → All (λ (p : Planned). IsItem p.item) plan
whole_items blocks plan whole = λ i d below. (whole_at blocks plan i d below whole).valid

-- what an item fills, by the lengths of its regions
pub after_by : (b : Bool) (bytes : List ℕ) (n : ℕ) (f : Fill) → length bytes ≡ n
    → (if b then f else filled_region n f) ≡ filled_regions (if b then [] else (bytes ∷ [])) f
after_by true bytes n f long = refl
after_by false bytes n f long = ap (λ (m : ℕ). filled_region m f) (sym long)

-- how many regions an item has
count_by : (b : Bool) (region bytes : List ℕ) → length (region ∷ (if b then [] else (bytes ∷ []))) ≡ (if b then 1 else 2)
count_by true region bytes = refl
count_by false region bytes = refl

pub count_most : (item : Item) (n : ℕ) → n ≡ region_count item → n ≤ 2
count_most (Buf sector) n is = omega (arith, is)
count_most (Inode ino) n is = omega (arith, is)
count_most (Begin id work) n is = omega (arith, is)
count_most (Done id of) n is = omega (arith, is)

pub count_more : (blocks : List Changed) (plan : List Planned) (i : ℕ) (d : Planned) (count n : ℕ) → i < length plan
    → count ≡ length (flat_map logged_regions (logged_in blocks (take i plan))) → n ≡ region_count (get_or plan i d).item
    → count + n ≡ length (flat_map logged_regions (logged_in blocks (take (i + 1) plan)))
count_more blocks plan i d count n below so_far is =
    let l : Logged = logged_of blocks (get_or plan i d) in
    let front : List (List ℕ) = flat_map logged_regions (logged_in blocks (take i plan)) in
    ap (λ (m : ℕ). m + n) so_far ∙ ap (λ (m : ℕ). length front + m) (is ∙ sym (count_by (following l.item == 0) (item_bytes l.item) l.bytes))
    ∙ sym (length-append front (logged_regions l)) ∙ sym (ap (λ (rs : List (List ℕ)). length rs) (regions_of_more blocks plan i d below))

pub all_counted : (blocks : List Changed) (plan : List Planned) (i count : ℕ) → length plan ≤ i
    → count ≡ length (flat_map logged_regions (logged_in blocks (take i plan))) → count ≡ length (flat_map logged_regions (logged_in blocks plan))
all_counted blocks plan i count past is = is ∙ ap (λ (ps : List Planned). length (flat_map logged_regions (logged_in blocks ps))) (take_all i plan past)

-- what one more item of a plan fills, and what all do
abbrev pub IsFilledTo : List Planned → ℕ → Fill → Fill → Type 0
IsFilledTo plan i start fill = (blocks : List Changed) → AllByRecursion IsWholeItem (logged_in blocks plan)
    → fill ≡ filled_regions (flat_map logged_regions (logged_in blocks (take i plan))) start

pub filled_more : (plan : List Planned) (i : ℕ) (d : Planned) (start fill fill' : Fill) → i < length plan → IsFilledTo plan i start fill
    → ((l : Logged) → l.item ≡ (get_or plan i d).item → length l.bytes ≡ following (get_or plan i d).item → fill' ≡ filled_regions (logged_regions l) fill)
    → IsFilledTo plan (i + 1) start fill'
filled_more plan i d start fill fill' below so_far one blocks whole =
    let l : Logged = logged_of blocks (get_or plan i d) in
    one l refl (whole_at blocks plan i d below whole).long ∙ ap (filled_regions (logged_regions l)) (so_far blocks whole)
    ∙ sym (filled-append (flat_map logged_regions (logged_in blocks (take i plan))) (logged_regions l) start)
    ∙ ap (λ (rs : List (List ℕ)). filled_regions rs start) (sym (regions_of_more blocks plan i d below))

pub all_filled : (plan : List Planned) (i : ℕ) (start fill : Fill) → length plan ≤ i → IsFilledTo plan i start fill → (blocks : List Changed)
    → AllByRecursion IsWholeItem (logged_in blocks plan) → fill ≡ filled_regions (flat_map logged_regions (logged_in blocks plan)) start
all_filled plan i start fill past so_far blocks whole =
    so_far blocks whole ∙ ap (λ (ps : List Planned). filled_regions (flat_map logged_regions (logged_in blocks ps)) start) (take_all i plan past)

-- the bytes that follow an item are of a block that is there

pub following_most : (item : Item) → following item ≤ 4096
following_most (Buf sector) = omega arith
following_most (Inode ino) = omega arith
following_most (Begin id work) = omega arith
following_most (Done id of) = omega arith

image_past : (blocks : List Changed) (i : ℕ) → length blocks ≤ i → image_at blocks i ≡ []
image_past [] i past = refl
image_past (l ∷ ls) zero past = absurd (omega (arith, past))
image_past (l ∷ ls) (suc i) past = image_past ls i (omega (arith, past))

pub image_is : (blocks : List Changed) (i : ℕ) (d : Changed) → i < length blocks → image_at blocks i ≡ (get_or blocks i d).image
image_is [] i d below = absurd (omega (arith, below))
image_is (l ∷ ls) zero d below = refl
image_is (l ∷ ls) (suc i) d below = image_is ls i d (omega (arith, below))

take_none : (n : ℕ) → length (take n (let xs : List ℕ = [] in xs)) ≡ 0
take_none zero = refl
take_none (suc n) = refl

pub block_within : (blocks : List Changed) (p : Planned) → IsWholeItem (logged_of blocks p) → 0 < following p.item → p.block < length blocks
block_within blocks p whole some = elim (cases_lt p.block (length blocks)) [
  | inl below ↦ below
  | inr past ↦ (
      let e = ap (λ (xs : List ℕ). length (take (following p.item) xs)) (image_past blocks p.block past) in
      let n = take_none (following p.item) in
      let long : length (take (following p.item) (image_at blocks p.block)) ≡ following p.item = whole.long in
      absurd (omega (arith, e, n, long, some)))
]
