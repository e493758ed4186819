-- Free runs in the order of their lengths, and then of their blocks.
use Rattle.std.proofs.Common.{◌≡◌, ℕ, ◌+◌, ◌-◌, ◌<◌, ◌≤◌, ◌==◌, zero, suc, Bool, false, List, length, get_or, subst, inl, inr, ⊎_elim, arith}
use Rattle.std.proofs.lemmas.Bool.{cases_lt}
use Rattle.std.proofs.lemmas.Bool.Decides.{nat_tests}
use Rattle.std.proofs.lemmas.List.Sorted.{ties_still_rise}
use Rattle.std.proofs.lemmas.Map.Keys.{IsDistinct-IsPermutation, IsDistinct-from_apart, apart_from_distinct}
use Rattle.std.specs.List.{AllPairs}
use Rattle.std.specs.List.Sorted.{IsNonDecreasingBy, IsPermutation, IsSortedByKey, IsStableByKey}
use Rattle.std.specs.Ordering.{nat_cmp}
use Rattle.xr_base.specs.declared.address.Run.{Run}
use Rattle.xr_group.specs.Next.{IsShorter, StartsBefore}

start_number : Run → ℕ
start_number r = r.start.0

module _ (xs ys : List Run) (moved : IsPermutation xs ys) (rising : AllPairs StartsBefore xs) (sorted : IsNonDecreasingBy (λ r. r.len) ys)
    (stable : IsStableByKey (λ (r : Run). r.len) nat_cmp xs ys) where
  abbrev same_start : Run → Run → Bool
  same_start a b = a.start.0 == b.start.0

  by_start : IsSortedByKey (λ (r : Run). r.start.0) nat_cmp xs
  by_start k d low high = let h = rising k (k + 1) d (omega arith) high in grind (arith, nat_tests)

  apart : (k : ℕ) (d : Run) → k + 1 < length ys → same_start (get_or ys k d) (get_or ys (k + 1) d) ≡ false
  apart k d within =
      apart_from_distinct same_start ys k (k + 1) d
      (IsDistinct-IsPermutation same_start (λ a b. grind (arith, nat_tests)) xs ys moved
      (IsDistinct-from_apart same_start xs (λ i j e below inside. let h = rising i j e below inside in grind (arith, nat_tests, h))))
      (omega arith) within

  next_shorter : (k : ℕ) (d : Run) → k + 1 < length ys → IsShorter (get_or ys k d) (get_or ys (k + 1) d)
  next_shorter k d within =
      let le = sorted k (k + 1) d (omega arith) within in ⊎_elim
      (λ (less : (get_or ys k d).len < (get_or ys (k + 1) d).len). inl less)
      (λ (not_less : (get_or ys (k + 1) d).len ≤ (get_or ys k d).len).
      let same : (get_or ys k d).len ≡ (get_or ys (k + 1) d).len = omega (arith, le, not_less) in
      let up = ties_still_rise (λ (r : Run). r.start.0) (λ (r : Run). r.len) xs ys by_start stable k d within same in
      let differ = apart k d within in
      inr (same, grind (arith, nat_tests, up, differ)))
      (cases_lt (get_or ys k d).len (get_or ys (k + 1) d).len)

  shorter_still : (r s t : Run) → IsShorter r s → IsShorter s t → IsShorter r t
  shorter_still r s t first second = grind arith

  shorter_by : (n i : ℕ) (d : Run) → i + 1 + n < length ys → IsShorter (get_or ys i d) (get_or ys (i + 1 + n) d)
  shorter_by zero i d within =
      let e : i + 1 ≡ i + 1 + 0 = omega arith in
      subst (λ (k : ℕ). IsShorter (get_or ys i d) (get_or ys k d)) e (next_shorter i d (omega arith))
  shorter_by (suc n) i d within =
      let e : i + 1 + n + 1 ≡ i + 1 + suc n = omega arith in
      subst (λ (k : ℕ). IsShorter (get_or ys i d) (get_or ys k d)) e
      (shorter_still (get_or ys i d) (get_or ys (i + 1 + n) d) (get_or ys (i + 1 + n + 1) d) (shorter_by n i d (omega arith)) (next_shorter (i + 1 + n) d (omega arith)))

  pub ordered_by_length : AllPairs IsShorter ys
  ordered_by_length i j d below within =
      let e : i + 1 + (j - i - 1) ≡ j = omega arith in
      subst (λ (k : ℕ). IsShorter (get_or ys i d) (get_or ys k d)) e (shorter_by (j - i - 1) i d (omega arith))
