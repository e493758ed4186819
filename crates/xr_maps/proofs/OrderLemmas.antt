-- Putting the owners found by file and offset in the order of their starts.
use Rattle.std.proofs.Common.{◌≡◌, ◌≢◌, ℕ, ◌+◌, ◌-◌, ◌<◌, ◌≤◌, List, zero, suc, length, get_or, sym, ap, subst, ◌∙◌, refl, arith, inl, inr, ⊎_elim}
use Rattle.std.specs.Prelude.{All, AllPairs, Any, ◌⊎◌}
use Rattle.std.specs.List.{swap}
use Rattle.std.specs.List.Sorted.{IsPermutation, IsNonDecreasingBy, IsStableByKey, IsSortedByKey}
use Rattle.std.specs.Ordering.{nat_cmp}
use Rattle.std.proofs.lemmas.List.Sorted.{IsPermutation-keeps, All-permutation, Contains-permutation, ties_still_rise}
use Rattle.std.proofs.lemmas.List.Edits.{Swapped, swapped_from_swap, length-swap}
use Rattle.std.proofs.lemmas.Bool.{cases_lt, cases_eq}
use Rattle.std.proofs.lemmas.Bool.Decides.{nat_tests}
use Rattle.xr_base.specs.declared.address.Addr.{Addr}
use Rattle.xr_base.specs.declared.geometry.TheConstants.{OFFSETS}
use Rattle.xr_maps.specs.declared.records.Rev.{Rev}
use Rattle.xr_maps.specs.FileMaps.{FileMaps, IsOwner}
use Rattle.xr_maps.specs.Records.{IsReverseRecord, CoversOwner, IsBefore, AreReverseRecords}
use Rattle.xr_maps.specs.Owners.{AreOwnersBelow, owner_place, place_of}

-- the element at k of a list with a and b swapped stood at s
record StoodAt (a b k s : ℕ) : Type 0 where
  at_a : k ≡ a → s ≡ b
  at_b : k ≡ b → s ≡ a
  elsewhere : k ≢ a → k ≢ b → s ≡ k

stood_one : (a b i j s t : ℕ) → StoodAt a b i s → StoodAt a b j t → s ≡ t → i ≡ j
stood_one a b i j s t from_i from_j same =
    let ia = from_i.at_a in let ib = from_i.at_b in let ie = from_i.elsewhere in
    let ja = from_j.at_a in let jb = from_j.at_b in let je = from_j.elsewhere in
    grind arith

-- no number is that of two elements
Distinct : (Rev → ℕ) → List Rev → Type 0
Distinct m xs = (i j : ℕ) (d : Rev) → i < length xs → j < length xs → m (get_or xs i d) ≡ m (get_or xs j d) → i ≡ j

-- where the element stood that stands at k now
stood : (xs ys : List Rev) (a b : ℕ) (d : Rev) → a < length xs → b < length xs → Swapped (λ i. get_or xs i d) (λ i. get_or ys i d) a b
    → (k : ℕ) → k < length xs → (s : ℕ) × (s < length xs) × (get_or ys k d ≡ get_or xs s d) × StoodAt a b k s
stood xs ys a b d in_a in_b moved k in_k = ⊎_elim
    (λ (e : k ≡ a). (
      b,
      in_b,
      ap (λ n. get_or ys n d) e ∙ moved.0,
      record { at_a = λ f. refl; at_b = λ f. omega arith; elsewhere = λ f g. absurd (f e) },
    ))
    (λ (ne : k ≢ a). ⊎_elim
    (λ (e : k ≡ b). (
      a,
      in_a,
      ap (λ n. get_or ys n d) e ∙ moved.1,
      record { at_a = λ f. absurd (ne f); at_b = λ f. refl; elsewhere = λ f g. absurd (g e) },
    ))
    (λ (nf : k ≢ b). (k, in_k, moved.2 k ne nf, record { at_a = λ f. absurd (ne f); at_b = λ f. absurd (nf f); elsewhere = λ f g. refl }))
    (cases_eq k b))
    (cases_eq k a)

distinct_swapped : (m : Rev → ℕ) (xs ys : List Rev) (a b : ℕ) → a < length xs → b < length xs → length ys ≡ length xs
    → ((d : Rev) → Swapped (λ i. get_or xs i d) (λ i. get_or ys i d) a b) → Distinct m xs → Distinct m ys
unfolding Distinct
distinct_swapped m xs ys a b in_a in_b long moved distinct i j d in_i in_j same =
    let at_i = stood xs ys a b d in_a in_b (moved d) i (omega arith) in
    let at_j = stood xs ys a b d in_a in_b (moved d) j (omega arith) in
    stood_one a b i j at_i.0 at_j.0 at_i.3 at_j.3
    (distinct at_i.0 at_j.0 d at_i.1 at_j.1 (ap m (sym at_i.2) ∙ same ∙ ap m at_j.2))

distinct_swap : (m : Rev → ℕ) (xs : List Rev) (a b : ℕ) → a < length xs → b < length xs → Distinct m xs → Distinct m (swap xs a b)
distinct_swap m xs a b in_a in_b distinct =
    distinct_swapped m xs (swap xs a b) a b in_a in_b (length-swap xs a b) (λ d. swapped_from_swap xs (swap xs a b) a b d in_a in_b refl) distinct

distinct_permutation : (m : Rev → ℕ) (xs ys : List Rev) → IsPermutation xs ys → Distinct m xs → Distinct m ys
distinct_permutation m xs ys moved distinct =
    IsPermutation-keeps xs (Distinct m) distinct (distinct_swap m) ys moved

distinct_rising : (m : Rev → ℕ) (xs : List Rev) → AllPairs (λ r s. m r < m s) xs → Distinct m xs
unfolding Distinct
distinct_rising m xs rising i j d in_i in_j same = ⊎_elim
    (λ (below : i < j). let h = rising i j d below in_j in absurd (omega arith))
    (λ (above : j ≤ i). ⊎_elim
    (λ (below : j < i). let h = rising j i d below in_i in absurd (omega arith))
    (λ (e : i ≤ j). omega arith)
    (cases_lt j i))
    (cases_lt i j)

-- by start, and then by place
ComesBefore : Rev → Rev → Type 0
ComesBefore r s = (r.run.start.0 < s.run.start.0) ⊎ (r.run.start.0 ≡ s.run.start.0) × (owner_place r < owner_place s)

comes_before_trans : (r s t : Rev) → ComesBefore r s → ComesBefore s t → ComesBefore r t
unfolding ComesBefore
comes_before_trans r s t first second = ⊎_elim
    (λ (h : r.run.start.0 < s.run.start.0). ⊎_elim
    (λ (k : s.run.start.0 < t.run.start.0). inl (omega arith))
    (λ k. let e = k.0 in inl (omega arith))
    second)
    (λ h. let e = h.0 in ⊎_elim
    (λ (k : s.run.start.0 < t.run.start.0). inl (omega arith))
    (λ k. let f = k.0 in let p = h.1 in let q = k.1 in inr (omega arith, omega arith))
    second)
    first

is_before : (r s : Rev) → r.off < OFFSETS → s.off < OFFSETS → ComesBefore r s → IsBefore r s
unfolding ComesBefore
is_before r s small_r small_s before = ⊎_elim
    (λ (h : r.run.start.0 < s.run.start.0). inl h)
    (λ h. let p = h.1 in inr (
      h.0,
      ⊎_elim
          (λ (k : r.owner < s.owner). inl k)
          (λ (k : s.owner ≤ r.owner). inr (omega arith, omega arith))
          (cases_lt r.owner s.owner),
    ))
    before

-- what each element has to the next it has to all after it
far_apart : (R : Rev → Rev → Type 0) (xs : List Rev) → ((r s t : Rev) → R r s → R s t → R r t)
    → ((k : ℕ) (d : Rev) → k + 1 < length xs → R (get_or xs k d) (get_or xs (k + 1) d))
    → (n i : ℕ) (d : Rev) → i + 1 + n < length xs → R (get_or xs i d) (get_or xs (i + 1 + n) d)
far_apart R xs trans next zero i d h =
    let e : i + 1 ≡ i + 1 + 0 = omega arith in subst (λ k. R (get_or xs i d) (get_or xs k d)) e (next i d (omega arith))
far_apart R xs trans next (suc n) i d h =
    let e : i + 1 + n + 1 ≡ i + 1 + suc n = omega arith in
    subst (λ k. R (get_or xs i d) (get_or xs k d)) e
    (trans (get_or xs i d) (get_or xs (i + 1 + n) d) (get_or xs (i + 1 + n + 1) d) (far_apart R xs trans next n i d (omega arith)) (next (i + 1 + n) d (omega arith)))

module _ (xs ys : List Rev) (moved : IsPermutation xs ys) (rising : AllPairs (λ r s. owner_place r < owner_place s) xs)
    (sorted : IsNonDecreasingBy (λ r. r.run.start.0) ys) (stable : IsStableByKey (λ (r : Rev). r.run.start.0) nat_cmp xs ys) where
  sorted_by_place : IsSortedByKey owner_place nat_cmp xs
  sorted_by_place k d low high = let h = rising k (k + 1) d (omega arith) high in grind (arith, nat_tests)

  next_comes : (k : ℕ) (d : Rev) → k + 1 < length ys → ComesBefore (get_or ys k d) (get_or ys (k + 1) d)
  unfolding ComesBefore Distinct
  next_comes k d h =
      let start_le = sorted k (k + 1) d (omega arith) h in
      ⊎_elim
      (λ (less : (get_or ys k d).run.start.0 < (get_or ys (k + 1) d).run.start.0). inl less)
      (λ (not_less : (get_or ys (k + 1) d).run.start.0 ≤ (get_or ys k d).run.start.0).
      let same : (get_or ys k d).run.start.0 ≡ (get_or ys (k + 1) d).run.start.0 = omega arith in
      let le = ties_still_rise owner_place (λ (r : Rev). r.run.start.0) xs ys sorted_by_place stable k d h same in
      inr (
        same,
        ⊎_elim
            (λ (l : owner_place (get_or ys k d) < owner_place (get_or ys (k + 1) d)). l)
            (λ (g : owner_place (get_or ys (k + 1) d) ≤ owner_place (get_or ys k d)).
            let e : owner_place (get_or ys k d) ≡ owner_place (get_or ys (k + 1) d) = omega arith in
            let one = distinct_permutation owner_place xs ys moved (distinct_rising owner_place xs rising) k (k + 1) d (omega arith) h e in
            absurd (omega arith))
            (cases_lt (owner_place (get_or ys k d)) (owner_place (get_or ys (k + 1) d))),
      ))
      (cases_lt (get_or ys k d).run.start.0 (get_or ys (k + 1) d).run.start.0)

  all_before : All (λ r. r.off < OFFSETS) ys → AllPairs IsBefore ys
  all_before small i j d below h =
      let e : i + 1 + (j - i - 1) ≡ j = omega arith in
      is_before (get_or ys i d) (get_or ys j d) (small i d (omega arith)) (small j d h)
      (subst (λ k. ComesBefore (get_or ys i d) (get_or ys k d)) e
      (far_apart ComesBefore ys comes_before_trans next_comes (j - i - 1) i d (omega arith)))

any_moved : (P : Rev → Type 0) (xs ys : List Rev) → IsPermutation xs ys → Any P xs → Any P ys
any_moved P xs ys moved found =
    let there = Contains-permutation xs ys found.1 moved (found.0, found.2, found.3) in
    (there.0, found.1, there.1, there.2, found.4)

-- all owners, sorted stably by start, are the reverse records
pub reverse_records_of : (maps : FileMaps) (group bound : ℕ) (xs ys : List Rev) → AreOwnersBelow maps group bound xs → IsPermutation xs ys
    → IsNonDecreasingBy (λ r. r.run.start.0) ys → IsStableByKey (λ (r : Rev). r.run.start.0) nat_cmp xs ys
    → ((a : Addr) (file off : ℕ) → IsOwner maps a file off → place_of file off < bound) → AreReverseRecords maps group ys
reverse_records_of maps group bound xs ys found moved sorted stable all = record {
  each = All-permutation (IsReverseRecord maps group) xs ys moved found.each;
  rising = all_before xs ys moved found.rising sorted stable (All-permutation (λ r. r.off < OFFSETS) xs ys moved found.offsets);
  every = λ a file off in_group own. any_moved (CoversOwner a file off) xs ys moved (found.every a file off (all a file off own) in_group own);
}
