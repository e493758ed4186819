-- That a whole transaction fills few records.
use Rattle.std.proofs.Common.{◌≡◌, ℕ, zero, suc, ◌+◌, ◌-◌, ◌*◌, ◌≤◌, ◌∙◌, Bool, true, false, nat_lt, List, [], ◌∷◌, ◌++◌, Option, None, Some, length, map, refl, sym, ap, subst, arith}
use Rattle.std.specs.Prelude.{◌==◌, if◌then◌else◌}
use Rattle.std.specs.List.{flat_map}
use Rattle.std.specs.Option.{option_to_list}
use Rattle.std.proofs.lemmas.Bool.{ltb-false, ltb-true}
use Rattle.std.proofs.lemmas.List.{length-append, length-take, map-append}
use Rattle.std.proofs.lemmas.List.Concat.{flat_map-append}
use Rattle.xr_items.specs.declared.item.Item.{Item}
use Rattle.xr_items.specs.declared.item.Item.TheVariants.{Begin}
use Rattle.xr_items.specs.declared.trans.Logged.{Logged as Changed}
use Rattle.xr_items.specs.declared.work.Work.{Work}
use Rattle.xr_items.specs.ItemLaws.{item_within}
use Rattle.xr_items.specs.Items.{following, item_bytes}
use Rattle.xr_items.specs.Transactions.{IsTrans, TransView}
use Rattle.xr_commit.specs.LoggedItems.{Logged, logged_regions}
use Rattle.xr_log.specs.declared.held.Slotted.{Slotted}
use Rattle.xr_log.specs.declared.packing.Fill.{Fill}
use Rattle.xr_log.specs.declared.transaction.Planned.{Planned}
use Rattle.xr_log.specs.Filling.{filled_by, filled_region, filled_regions, filled_whole, with_room}
use Rattle.xr_log.specs.TransactionItems.{begun_items, block_at, block_entry, done_item, ended_in, entry_in, image_at, logged_in, logged_of, placed_among, planned, rising}
use Rattle.xr_log.proofs.FillLemmas.{filled-append, following_most}

-- So much is filled, where each record that is full counts as so many bytes.
record Takes (before after : Fill) (n : ℕ) : Type 0 where
  len : after.len ≤ 32768
  most : 32768 * after.records + after.len ≤ 32768 * before.records + before.len + n

takes_then : (f g h : Fill) (m n k : ℕ) → m + n ≤ k → Takes f g m → Takes g h n → Takes f h k
takes_then f g h m n k within one two = record { len = two.len; most = let a = one.most in let b = two.most in omega (arith, a, b, within) }

takes_nothing : (f : Fill) (k : ℕ) → f.len ≤ 32768 → Takes f f k
takes_nothing f k len = record { len = len; most = omega arith }

-- after the record is written where fewer than so many bytes are free, so many are
record LeavesFree (need : ℕ) (before after : Fill) : Type 0 where
  free : after.len + need ≤ 32768
  most : 32768 * after.records + after.len ≤ 32768 * before.records + before.len + need

free_by : (b : Bool) (need : ℕ) (f : Fill) → nat_lt 32768 (f.len + need) ≡ b → need ≤ 32768
    → LeavesFree need f (if b then (record { records = f.records + 1; len = 0 }) else f)
free_by true need f is fits = let over = ltb-true 32768 (f.len + need) is in record { free = omega (arith, fits); most = omega (arith, over) }
free_by false need f is fits = let within = ltb-false 32768 (f.len + need) is in record { free = omega (arith, within); most = omega arith }

leaves_free : (need : ℕ) (f : Fill) → need ≤ 32768 → LeavesFree need f (with_room need f)
leaves_free need f fits = free_by (nat_lt 32768 (f.len + need)) need f refl fits

whole_takes : (bytes : ℕ) (f : Fill) → bytes ≤ 16 → Takes f (filled_whole bytes f) 56
whole_takes bytes f few =
    let r = leaves_free (12 + bytes) f (omega (arith, few)) in
    let free = r.free in
    let most = r.most in
    record { len = omega (arith, free); most = omega (arith, most, few) }

-- a region that is cut begins another operation
end_by : (b : Bool) (f : Fill) (end : ℕ) → nat_lt 32768 end ≡ b → end ≤ 65524
    → Takes (record { records = f.records; len = end }) (if b then (record { records = f.records + 1; len = 12 + (end - 32768) }) else (record { records = f.records; len = end })) 12
end_by true f end is fits = let over = ltb-true 32768 end is in record { len = omega (arith, fits, over); most = omega (arith, over) }
end_by false f end is fits = let within = ltb-false 32768 end is in record { len = omega (arith, within); most = omega arith }

region_takes : (bytes : ℕ) (f : Fill) → bytes ≤ 4096 → Takes f (filled_region bytes f) (bytes + 37)
region_takes bytes f few =
    let before : Fill = with_room 13 f in
    let end : ℕ = before.len + (12 + bytes) in
    let r = leaves_free 13 f (omega arith) in
    let free = r.free in
    let most = r.most in
    let e = end_by (nat_lt 32768 end) before end refl (omega (arith, free, few)) in
    let last = e.most in
    record { len = e.len; most = omega (arith, most, last) }

-- what items of a plan take at most, wherever they begin
abbrev TakesMost : List Changed → List Planned → ℕ → Type 0
TakesMost blocks plan n = (f : Fill) → f.len ≤ 32768 → Takes f (filled_regions (flat_map logged_regions (logged_in blocks plan)) f) n

abbrev OneTakes : List Changed → Planned → ℕ → Type 0
OneTakes blocks p n = (f : Fill) → f.len ≤ 32768 → Takes f (filled_regions (logged_regions (logged_of blocks p)) f) n

both_take : (xs ys all : List (List ℕ)) (f : Fill) (m n k : ℕ) → all ≡ xs ++ ys → m + n ≤ k → Takes f (filled_regions xs f) m
    → Takes (filled_regions xs f) (filled_regions ys (filled_regions xs f)) n → Takes f (filled_regions all f) k
both_take xs ys all f m n k is within one two =
    subst (λ (g : Fill). Takes f g k) (sym (ap (λ (rs : List (List ℕ)). filled_regions rs f) is ∙ filled-append xs ys f))
    (takes_then f (filled_regions xs f) (filled_regions ys (filled_regions xs f)) m n k within one two)

one_more_takes : (blocks : List Changed) (p : Planned) (plan : List Planned) (m n k : ℕ) → m + n ≤ k → OneTakes blocks p m → TakesMost blocks plan n → TakesMost blocks (p ∷ plan) k
one_more_takes blocks p plan m n k within one rest f len =
    both_take (logged_regions (logged_of blocks p)) (flat_map logged_regions (logged_in blocks plan)) (flat_map logged_regions (logged_in blocks (p ∷ plan))) f m n k refl within
    (one f len) (rest (filled_regions (logged_regions (logged_of blocks p)) f) (one f len).len)

parts_take : (blocks : List Changed) (ps qs : List Planned) (m n k : ℕ) → m + n ≤ k → TakesMost blocks ps m → TakesMost blocks qs n → TakesMost blocks (ps ++ qs) k
parts_take blocks ps qs m n k within one two f len =
    let regions : List Planned → List (List ℕ) = λ plan. flat_map logged_regions (logged_in blocks plan) in
    both_take (regions ps) (regions qs) (regions (ps ++ qs)) f m n k
    (ap (λ (ls : List Logged). flat_map logged_regions ls) (map-append (logged_of blocks) ps qs) ∙ flat_map-append logged_regions (logged_in blocks ps) (logged_in blocks qs))
    within (one f len) (two (filled_regions (regions ps) f) (one f len).len)

-- an item that logs a block, and one that doesn't

after_takes : (b : Bool) (bytes : List ℕ) (f : Fill) → length bytes ≤ 4096 → f.len ≤ 32768 → Takes f (filled_regions (if b then [] else (bytes ∷ [])) f) 4133
after_takes true bytes f fits len = takes_nothing f 4133 len
after_takes false bytes f fits len = let r = region_takes (length bytes) f fits in let most = r.most in record { len = r.len; most = omega (arith, most, fits) }

front_takes : (item : Item) (f : Fill) → Takes f (filled_region (length (item_bytes item)) f) 93
front_takes item f =
    let short = item_within item in
    let r = region_takes (length (item_bytes item)) f (omega (arith, short)) in
    let most = r.most in
    record { len = r.len; most = omega (arith, most, short) }

bytes_fit : (blocks : List Changed) (p : Planned) → length (logged_of blocks p).bytes ≤ 4096
bytes_fit blocks p = let t = length-take (following p.item) (image_at blocks p.block) in let m = following_most p.item in omega (arith, t, m)

block_takes : (blocks : List Changed) (p : Planned) → OneTakes blocks p 4226
block_takes blocks p f len =
    let front : Fill = filled_region (length (item_bytes p.item)) f in
    takes_then f front (filled_regions (if following p.item == 0 then [] else ((logged_of blocks p).bytes ∷ [])) front) 93 4133 4226 (omega arith) (front_takes p.item f)
    (after_takes (following p.item == 0) (logged_of blocks p).bytes front (bytes_fit blocks p) (front_takes p.item f).len)

-- the parts of a plan

done_take : (blocks : List Changed) (entries : List Slotted) → TakesMost blocks (map done_item entries) (93 * length entries)
done_take blocks [] = λ f len. takes_nothing f 0 len
done_take blocks (s ∷ entries) =
    one_more_takes blocks (done_item s) (map done_item entries) 93 (93 * length entries) (93 * length (s ∷ entries)) (omega arith) (λ f len. front_takes (done_item s).item f)
    (done_take blocks entries)

begun_take : (blocks : List Changed) (next : ℕ) (works : List Work) → TakesMost blocks (begun_items next works) (93 * length works)
begun_take blocks next [] = λ f len. takes_nothing f 0 len
begun_take blocks next (work ∷ works) =
    one_more_takes blocks (record { item = Begin next work; block = 0 }) (begun_items (suc next) works) 93 (93 * length works) (93 * length (work ∷ works)) (omega arith)
    (λ f len. front_takes (Begin next work) f) (begun_take blocks (suc next) works)

blocks_take : (blocks : List Changed) (order : List ℕ) → TakesMost blocks (map (block_entry blocks) order) (4226 * length order)
blocks_take blocks [] = λ f len. takes_nothing f 0 len
blocks_take blocks (i ∷ order) =
    one_more_takes blocks (block_entry blocks i) (map (block_entry blocks) order) 4226 (4226 * length order) (4226 * length (i ∷ order)) (omega arith)
    (block_takes blocks (block_entry blocks i)) (blocks_take blocks order)

-- and how many they are

one_at_most : {X : Type 0} (found : Option X) → length (option_to_list found) ≤ 1
one_at_most None = omega arith
one_at_most (Some x) = omega arith

ended_few : (table : List Slotted) (slots : List ℕ) → length (ended_in table slots) ≤ length slots
ended_few table [] = omega arith
ended_few table (slot ∷ slots) =
    let a : length (ended_in table (slot ∷ slots)) ≡ length (option_to_list (entry_in table slot)) + length (ended_in table slots) =
    length-append (option_to_list (entry_in table slot)) (ended_in table slots) in
    let b = one_at_most (entry_in table slot) in
    let c = ended_few table slots in
    omega (arith, a, b, c)

among_by : (b : Bool) (xs ys : List ℕ) (n : ℕ) → length xs ≡ n → length ys ≡ n → length (if b then xs else ys) ≡ n
among_by true xs ys n one two = one
among_by false xs ys n one two = two

length-among : (blocks : List Changed) (i : ℕ) (order : List ℕ) → length (placed_among blocks i order) ≡ suc (length order)
length-among blocks i [] = refl
length-among blocks i (j ∷ order) =
    among_by (nat_lt (block_at blocks i) (block_at blocks j)) (i ∷ j ∷ order) (j ∷ placed_among blocks i order) (suc (suc (length order))) refl (ap suc (length-among blocks i order))

length-rising : (blocks : List Changed) (n : ℕ) → length (rising blocks n) ≡ n
unfolding rising
length-rising blocks zero = refl
length-rising blocks (suc n) = length-among blocks n (rising blocks n) ∙ ap suc (length-rising blocks n)

plan_takes : (table : List Slotted) (next : ℕ) (trans : TransView) → IsTrans trans → TakesMost trans.blocks (planned table next trans) 272696
plan_takes table next trans is =
    let dones : List Slotted = ended_in table trans.done in
    let order : List ℕ = rising trans.blocks (length trans.blocks) in
    let few = ended_few table trans.done in
    let long = length-rising trans.blocks (length trans.blocks) in
    let blocks_fit = is.blocks_fit in
    let works_fit = is.works_fit in
    let done_fit = is.done_fit in
    parts_take trans.blocks (map done_item dones ++ map (block_entry trans.blocks) order) (begun_items next trans.works)
    (93 * length dones + 4226 * length order) (93 * length trans.works) 272696 (omega (arith, few, long, blocks_fit, works_fit, done_fit))
    (parts_take trans.blocks (map done_item dones) (map (block_entry trans.blocks) order) (93 * length dones) (4226 * length order)
    (93 * length dones + 4226 * length order) (omega arith) (done_take trans.blocks dones) (blocks_take trans.blocks order))
    (begun_take trans.blocks next trans.works)

few_after : (f g h k l : Fill) → f.records ≡ 0 → f.len ≤ 32768 → Takes f g 56 → Takes g h 56 → Takes h k 272696 → Takes k l 56 → l.records ≤ 12
few_after f g h k l none fits one two three four =
    let a = one.most in let b = two.most in let c = three.most in let d = four.most in omega (arith, a, b, c, d, none, fits)

-- A transaction fills at most so many records, whatever the body that grows holds before it.
pub commit_fills_few : (table : List Slotted) (next len : ℕ) (trans : TransView) → IsTrans trans → len ≤ 32768
    → (filled_by (logged_in trans.blocks (planned table next trans)) (record { records = 0; len = len })).records ≤ 12
commit_fills_few table next len trans is fits =
    let before : Fill = record { records = 0; len = len } in
    let begun : Fill = filled_whole 0 before in
    let front : Fill = filled_whole 16 begun in
    let pushed : Fill = filled_regions (flat_map logged_regions (logged_in trans.blocks (planned table next trans))) front in
    let header = whole_takes 16 begun (omega arith) in
    few_after before begun front pushed (filled_whole 0 pushed) refl fits (whole_takes 0 before (omega arith)) header (plan_takes table next trans is front header.len)
    (whole_takes 0 pushed (omega arith))
