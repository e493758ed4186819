-- Counting the numbers below one that pass.
use Rattle.std.proofs.Common.{◌≡◌, ℕ, ◌+◌, ◌*◌, ◌<◌, ◌≤◌, Bool, true, false, zero, suc, if◌then◌else◌, refl, ap, arith, add-one, List, [], ◌∷◌, length, take, get_or, replicate, Option, sym, ◌∙◌}
use Rattle.std.specs.Prelude.{slice_index}
use Rattle.std.specs.Global.{Vec}
use Rattle.std.specs.FinMap.{get}
use Rattle.std.proofs.lemmas.List.{length-replicate, get_or-replicate}
use Rattle.std.proofs.lemmas.List.Sums.{sum_by_more, sum_by-cons}
use Rattle.xr_base.specs.Address.{address_of}
use Rattle.xr_base.specs.declared.address.Addr.{Addr}
use Rattle.xr_base.specs.declared.geometry.TheConstants.{DATA_BLOCKS, OFFSETS}
use Rattle.xr_maps.specs.Records.{count_below, offsets_with, maps_to, owner_count}
use Rattle.xr_maps.specs.Counts.{owners_in_tables, first_data_of, AreOwnerCounts}
use Rattle.xr_maps.specs.FileMaps.{FileMap}
use Rattle.xr_maps.specs.FileMapLaws.{get-tabulated}
use Rattle.xr_maps.specs.Tables.{slot_of, map_of_table, maps_of_tables}

pub count_below_none : (p : ℕ → Bool) → count_below p 0 ≡ 0
unfolding count_below
count_below_none p = refl

pub count_below_more : (p : ℕ → Bool) (n : ℕ) → count_below p (n + 1) ≡ count_below p n + (if p n then 1 else 0)
unfolding count_below
count_below_more p n = rw add-one refl

at_most_one : (b : Bool) → (if b then 1 else 0) ≤ 1
at_most_one true = omega arith
at_most_one false = omega arith

pub count_below_le : (p : ℕ → Bool) (n : ℕ) → count_below p n ≤ n
unfolding count_below
count_below_le p zero = omega arith
count_below_le p (suc n) = let h = count_below_le p n in let b = at_most_one (p n) in omega arith

pub ruleset count_below_laws = (count_below_none, count_below_more, count_below_le)

pub count_below_same : (p q : ℕ → Bool) (n : ℕ) → ((k : ℕ) → k < n → p k ≡ q k) → count_below p n ≡ count_below q n
unfolding count_below
count_below_same p q zero same = refl
count_below_same p q (suc n) same =
    let before = count_below_same p q n (λ k h. same k (omega arith)) in
    let here : p n ≡ q n = same n (omega arith) in
    rw (before, here) refl

-- the counts of the blocks from first on, after the first n of the tables
pub record AreCountsSoFar (tables : List (Vec (Option Addr))) (first n : ℕ) (counts : List ℕ) : Type 0 where
  pub each : (i : ℕ) → i < length counts → slice_index counts i ≡ owners_in_tables (take n tables) (address_of (first + i))
  pub small : (i : ℕ) → i < length counts → slice_index counts i ≤ OFFSETS * n

-- one more table is counted
pub counts_more : (tables : List (Vec (Option Addr))) (table : Vec (Option Addr)) (first n : ℕ) (old new : List ℕ)
    → AreCountsSoFar tables first n old → n < length tables → table ≡ get_or tables n table → length table.items ≡ OFFSETS → length new ≡ length old
    → ((i : ℕ) → i < length old → slice_index new i ≡ slice_index old i + count_below (λ off. maps_to (address_of (first + i)) (slot_of table.items off)) (length table.items))
    → AreCountsSoFar tables first (n + 1) new
counts_more tables table first n old new so_far inside read slots long added = record {
  each = λ i h.
      let f : Vec (Option Addr) → ℕ = λ t. offsets_with (slot_of t.items) (address_of (first + i)) in
      let more = sum_by_more f tables n table inside in
      let here : f (get_or tables n table) ≡ f table = ap f (sym read) in
      let plus = added i (omega arith) in
      let old_count = so_far.each i (omega arith) in
      let whole : count_below (λ off. maps_to (address_of (first + i)) (slot_of table.items off)) (length table.items) ≡ f table =
      ap (count_below (λ off. maps_to (address_of (first + i)) (slot_of table.items off))) slots in
      plus ∙ ap (λ x. slice_index old i + x) whole ∙ ap (λ x. x + f table) old_count ∙ ap (λ x. owners_in_tables (take n tables) (address_of (first + i)) + x) (sym here) ∙ sym more;
  small = λ i h.
      let plus = added i (omega arith) in
      let bound = so_far.small i (omega arith) in
      let few = count_below_le (λ off. maps_to (address_of (first + i)) (slot_of table.items off)) (length table.items) in
      omega arith;
}

-- counting in the maps is counting in their tables
owners_in_maps : (tables : List (Vec (Option Addr))) (address : Addr) → owner_count (maps_of_tables tables) address ≡ owners_in_tables tables address
owners_in_maps [] address = refl
owners_in_maps (t ∷ tables) address =
    let here : offsets_with (get (map_of_table t.items)) address ≡ offsets_with (slot_of t.items) address =
    count_below_same _ _ OFFSETS (λ off h. ap (maps_to address) (get-tabulated OFFSETS (slot_of t.items) off h)) in
    let rest = owners_in_maps tables address in
    sum_by-cons (λ (m : FileMap). offsets_with (get m) address) (map_of_table t.items) (maps_of_tables tables)
    ∙ ap (λ n. n + owner_count (maps_of_tables tables) address) here
    ∙ ap (λ n. offsets_with (slot_of t.items) address + n) rest
    ∙ sym (sum_by-cons (λ (t : Vec (Option Addr)). offsets_with (slot_of t.items) address) t tables)

pub all_counted : (tables : List (Vec (Option Addr))) (group : ℕ) (counts : List ℕ) → length counts ≡ DATA_BLOCKS
    → ((i : ℕ) → i < length counts → slice_index counts i ≡ owners_in_tables tables (address_of (first_data_of group + i)))
    → AreOwnerCounts (maps_of_tables tables) group counts
all_counted tables group counts long each = record {
  blocks = long;
  each = λ i h. each i (omega arith) ∙ sym (owners_in_maps tables (address_of (first_data_of group + i)));
}

pub zeros : (n : ℕ) (counts : List ℕ) → counts ≡ replicate n 0 → (i : ℕ) → i < length counts → slice_index counts i ≡ 0
zeros n counts e i h =
    let l : length counts ≡ n = ap length e ∙ length-replicate n 0 in
    ap (λ xs. get_or xs i 0) e ∙ get_or-replicate n i 0 0 (omega arith)
