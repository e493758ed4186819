-- The records of each of the four trees of a group rise strictly in the order of the tree.
use Rattle.std.specs.Prelude.{◌≡◌, ℕ, ◌<◌, ◌≤◌, Bool, true, false, List, length, map, AllPairs}
use Rattle.std.proofs.Common.{refl, sym, ap, subst, arith, ⊎_elim, inl, inr, get_or}
use Rattle.std.proofs.lemmas.Bool.{cases_lt}
use Rattle.std.proofs.lemmas.Bool.Decides.{nat_tests}
use Rattle.std.proofs.lemmas.List.{get_or-map, length-map}
use Rattle.std.specs.declared.cmp.Ordering.TheVariants.{Less}
use Rattle.xr_base.specs.Address.{address_of}
use Rattle.xr_base.specs.declared.address.Run.{Run}
use Rattle.xr_check.specs.TreeOrders.{IsTreeOrder}
use Rattle.xr_check.specs.Verdicts.{counted_start, rev_start, run_start}
use Rattle.xr_group.specs.Group.{records_now}
use Rattle.xr_group.specs.Next.{IsCountedBefore, IsShorter, StartsBefore, counted_at, counteds_now, free_run_at, frees_now, rev_at, revs_now, sized_run_at, sizes_now}
use Rattle.xr_kinds.specs.FreeRuns.{block_form, size_form}
use Rattle.xr_kinds.specs.Reference.{reference_form}
use Rattle.xr_kinds.specs.Reverse.{reverse_form}
use Rattle.xr_kinds.specs.declared.free_runs.ByBlock.{ByBlock}
use Rattle.xr_kinds.specs.declared.free_runs.BySize.{BySize}
use Rattle.xr_kinds.specs.declared.reference.Reference.{Reference}
use Rattle.xr_kinds.specs.declared.reverse.Reverse.{Reverse}
use Rattle.xr_maps.specs.Records.{IsBefore}
use Rattle.xr_maps.specs.declared.records.Counted.{Counted}
use Rattle.xr_maps.specs.declared.records.Rev.{Rev}

-- records that rise in one order rise in the other by their addresses
rising_map : {X Y : Type 0} (at : X → Y) (Lower : X → X → Type 0) (Before : Y → Y → Type 0) (some : X) (xs : List X)
    → ((i j : ℕ) → i < j → j < length xs → Lower (get_or xs i some) (get_or xs j some) → Before (at (get_or xs i some)) (at (get_or xs j some)))
    → AllPairs Lower xs → AllPairs Before (map at xs)
rising_map {X} {Y} at Lower Before some xs carry up i j d before within =
    let late : j < length xs = omega (arith, within, length-map xs at) in
    let early : i < length xs = omega (arith, before, late) in
    subst (λ (x : Y). Before x (get_or (map at xs) j d)) (sym (get_or-map at xs i some d early))
    (subst (λ (y : Y). Before (at (get_or xs i some)) y) (sym (get_or-map at xs j some d late))
    (carry i j before late (up i j some before late)))

-- Owners

no_reverse : Reverse
no_reverse = record { start = 0; len = 0; owner = 0; off = 0 }

not_itself : (r : Rev) → ¬ (IsBefore r r)
not_itself r before = grind arith

later_still : (r s t : Rev) → IsBefore r s → IsBefore s t → IsBefore r t
later_still r s t first second = grind arith

same_start : (r s : Rev) → ¬ (IsBefore r s) → ¬ (IsBefore s r) → r.run.start ≡ s.run.start
same_start r s one other =
    let same : r.run.start.0 ≡ s.run.start.0 = ⊎_elim
    (λ (less : r.run.start.0 < s.run.start.0). absurd (one (inl less)))
    (λ (not_less : s.run.start.0 ≤ r.run.start.0). ⊎_elim
    (λ (less : s.run.start.0 < r.run.start.0). absurd (other (inl less)))
    (λ (also : r.run.start.0 ≤ s.run.start.0). omega (arith, not_less, also))
    (cases_lt s.run.start.0 r.run.start.0))
    (cases_lt r.run.start.0 s.run.start.0) in
    ap address_of same

rev_rises : (number : ℕ) (a b : Reverse) → reverse_form.order a b ≡ Less → IsBefore (rev_at number a) (rev_at number b)
rev_rises number a b less = grind (arith, nat_tests, less)

pub owners_ordered : IsTreeOrder revs_now IsBefore rev_start
owners_ordered = record {
  irreflexive = not_itself;
  transitive = later_still;
  alike = same_start;
  rising = λ g are. rising_map (rev_at g.number) (λ (a b : Reverse). reverse_form.order a b ≡ Less) IsBefore no_reverse
      (records_now g).reverse (λ i j before late. rev_rises g.number (get_or (records_now g).reverse i no_reverse) (get_or (records_now g).reverse j no_reverse)) are.group.trees.rmap.records.ascend;
}

-- Counts

no_reference : Reference
no_reference = record { start = 0; len = 0; count = 0; staged = false }

not_counted_itself : (r : Counted) → ¬ (IsCountedBefore r r)
not_counted_itself r before = grind arith

counted_later_still : (r s t : Counted) → IsCountedBefore r s → IsCountedBefore s t → IsCountedBefore r t
counted_later_still r s t first second = grind arith

-- of two numbers neither of which is lower
same_number : (m n : ℕ) → ¬ (m < n) → ¬ (n < m) → m ≡ n
same_number m n one other = ⊎_elim
    (λ (less : m < n). absurd (one less))
    (λ (not_less : n ≤ m). ⊎_elim (λ (less : n < m). absurd (other less)) (λ (also : m ≤ n). omega (arith, not_less, also)) (cases_lt n m))
    (cases_lt m n)

same_kind : (x y : Bool) → ¬ ((x ≡ false) × (y ≡ true)) → ¬ ((y ≡ false) × (x ≡ true)) → x ≡ y
same_kind true true one other = refl
same_kind false false one other = refl
same_kind true false one other = absurd (other (refl, refl))
same_kind false true one other = absurd (one (refl, refl))

same_counted_start : (r s : Counted) → ¬ (IsCountedBefore r s) → ¬ (IsCountedBefore s r) → r.run.start ≡ s.run.start
same_counted_start r s one other =
    let kind : r.staged ≡ s.staged = same_kind r.staged s.staged (λ h. one (inl h)) (λ h. other (inl h)) in
    ap address_of (same_number r.run.start.0 s.run.start.0 (λ h. one (inr (kind, h))) (λ h. other (inr (sym kind, h))))

counted_rises : (number : ℕ) (a b : Reference) → reference_form.is_valid a ≡ true → reference_form.is_valid b ≡ true → reference_form.order a b ≡ Less
    → IsCountedBefore (counted_at number a) (counted_at number b)
counted_rises number a b good other less = grind (arith, nat_tests, good, other, less)

pub counts_ordered : IsTreeOrder counteds_now IsCountedBefore counted_start
counts_ordered = record {
  irreflexive = not_counted_itself;
  transitive = counted_later_still;
  alike = same_counted_start;
  rising = λ g are.
      let rules = are.group.trees.counts.records in
      rising_map (counted_at g.number) (λ (a b : Reference). reference_form.order a b ≡ Less) IsCountedBefore no_reference
      (records_now g).reference
      (λ i j before late. counted_rises g.number (get_or (records_now g).reference i no_reference) (get_or (records_now g).reference j no_reference)
      (rules.valid i no_reference (omega (arith, before, late))) (rules.valid j no_reference late)) rules.ascend;
}

-- Free runs

no_block : ByBlock
no_block = record { start = 0; len = 0 }

no_size : BySize
no_size = record { start = 0; len = 0 }

run_rises : (number : ℕ) (a b : ByBlock) → block_form.order a b ≡ Less → StartsBefore (free_run_at number a) (free_run_at number b)
run_rises number a b less = grind (arith, nat_tests, less)

pub frees_ordered : IsTreeOrder frees_now StartsBefore run_start
frees_ordered = record {
  irreflexive = λ x before. omega (arith, before);
  transitive = λ x y z first second. omega (arith, first, second);
  alike = λ x y one other. ap address_of (same_number x.start.0 y.start.0 one other);
  rising = λ g are. rising_map (free_run_at g.number) (λ (a b : ByBlock). block_form.order a b ≡ Less) StartsBefore no_block
      (records_now g).by_block (λ i j before late. run_rises g.number (get_or (records_now g).by_block i no_block) (get_or (records_now g).by_block j no_block)) are.group.trees.space.blocks.records.ascend;
}

not_shorter_itself : (r : Run) → ¬ (IsShorter r r)
not_shorter_itself r before = grind arith

shorter_still : (r s t : Run) → IsShorter r s → IsShorter s t → IsShorter r t
shorter_still r s t first second = grind arith

same_run_start : (r s : Run) → ¬ (IsShorter r s) → ¬ (IsShorter s r) → r.start ≡ s.start
same_run_start r s one other =
    let len : r.len ≡ s.len = same_number r.len s.len (λ h. one (inl h)) (λ h. other (inl h)) in
    ap address_of (same_number r.start.0 s.start.0 (λ h. one (inr (len, h))) (λ h. other (inr (sym len, h))))

sized_rises : (number : ℕ) (a b : BySize) → size_form.order a b ≡ Less → IsShorter (sized_run_at number a) (sized_run_at number b)
sized_rises number a b less = grind (arith, nat_tests, less)

pub sizes_ordered : IsTreeOrder sizes_now IsShorter run_start
sizes_ordered = record {
  irreflexive = not_shorter_itself;
  transitive = shorter_still;
  alike = same_run_start;
  rising = λ g are. rising_map (sized_run_at g.number) (λ (a b : BySize). size_form.order a b ≡ Less) IsShorter no_size
      (records_now g).by_size (λ i j before late. sized_rises g.number (get_or (records_now g).by_size i no_size) (get_or (records_now g).by_size j no_size)) are.group.trees.space.sizes.records.ascend;
}
