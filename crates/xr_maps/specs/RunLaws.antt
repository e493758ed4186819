-- Longest runs are determined: each is in the list of them, and no other list is that list.
use Rattle.std.specs.Prelude.{◌≡◌, ℕ, ◌+◌, ◌-◌, ◌<◌, ◌≤◌, List, [], ◌∷◌, length, suc, zero, AllPairs, Contains, ◌⊎◌}
use Rattle.std.proofs.Common.{refl, sym, ◌∙◌, subst, arith, ⊎_elim, get_or, inl, inr}
use Rattle.std.proofs.lemmas.List.{get_or_default}
use Rattle.std.proofs.lemmas.Bool.{cases_lt}
use Rattle.xr_maps.specs.Runs.{Span, Covers, IsLongestRun, AreLongestRuns}

module _ {IsThere IsJoined : ℕ → Type 0} where
  starts_no_earlier : (s t : Span) (k : ℕ) → IsLongestRun IsThere IsJoined s → IsLongestRun IsThere IsJoined t → Covers k s → Covers k t → t.start ≤ s.start
  starts_no_earlier s t k run other in_s in_t = ⊎_elim
      (λ (earlier : s.start < t.start).
      let a = in_s.not_ended in let b = in_t.begun in
      absurd (other.left (t.start - 1) (omega arith)
      (run.joined (t.start - 1) (record { begun = omega arith; not_ended = omega arith }) (record { begun = omega arith; not_ended = omega arith }))))
      (λ (h : t.start ≤ s.start). h)
      (cases_lt s.start t.start)

  ends_no_later : (s t : Span) (k : ℕ) → IsLongestRun IsThere IsJoined s → IsLongestRun IsThere IsJoined t → Covers k s → Covers k t
      → t.start + t.len ≤ s.start + s.len
  ends_no_later s t k run other in_s in_t = ⊎_elim
      (λ (later : s.start + s.len < t.start + t.len).
      let a = in_s.not_ended in let b = in_t.begun in
      absurd (run.right (s.start + s.len - 1) (omega arith)
      (other.joined (s.start + s.len - 1) (record { begun = omega arith; not_ended = omega arith }) (record { begun = omega arith; not_ended = omega arith }))))
      (λ (h : t.start + t.len ≤ s.start + s.len). h)
      (cases_lt (s.start + s.len) (t.start + t.len))

  -- two longest runs with a position in common are one
  pub same_run : (s t : Span) (k : ℕ) → IsLongestRun IsThere IsJoined s → IsLongestRun IsThere IsJoined t → Covers k s → Covers k t → s ≡ t
  same_run s t k run other in_s in_t =
      let a = starts_no_earlier s t k run other in_s in_t in
      let b = starts_no_earlier t s k other run in_t in_s in
      let c = ends_no_later s t k run other in_s in_t in
      let d = ends_no_later t s k other run in_t in_s in
      let start : s.start ≡ t.start = omega arith in
      let len : s.len ≡ t.len = omega arith in
      λ i. record { start = start i; len = len i }

  -- each longest run is among them
  pub Contains-longest_run : (spans : List Span) (s : Span) → AreLongestRuns IsThere IsJoined spans → IsLongestRun IsThere IsJoined s → Contains spans s
  Contains-longest_run spans s runs run =
      let some = run.some in
      let begun : Covers s.start s = record { begun = omega arith; not_ended = omega arith } in
      let found = runs.every s.start (run.there s.start begun) in
      let found_run = subst (IsLongestRun IsThere IsJoined) found.3 (runs.each found.0 found.1 found.2) in
      (found.0, found.2, get_or_default spans found.0 s found.1 found.2 ∙ found.3 ∙ same_run found.1 s s.start found_run run found.4 begun)

-- two lists in one strict order with the same elements are one list
module _ {X : Type 0} (R : X → X → Type 0) (irreflexive : (x : X) → ¬ R x x) (transitive : (x y z : X) → R x y → R y z → R x z) where
  other_place : (x y : X) (xs : List X) → Contains (y ∷ xs) x → ¬ (x ≡ y) → Contains xs x
  other_place x y xs (zero, h, e) ne = absurd (ne (sym e))
  other_place x y xs (suc k, h, e) ne = (k, omega arith, e)

  at_head : (x y : X) (xs : List X) (k : ℕ) → AllPairs R (y ∷ xs) → k < length (y ∷ xs) → get_or (y ∷ xs) k x ≡ x → (x ≡ y) ⊎ R y x
  at_head x y xs zero rising h e = inl (sym e)
  at_head x y xs (suc k) rising h e = inr (subst (R y) e (rising 0 (suc k) x (omega arith) h))

  heads_same : (x y : X) (xs ys : List X) → AllPairs R (x ∷ xs) → AllPairs R (y ∷ ys) → Contains (y ∷ ys) x → Contains (x ∷ xs) y → x ≡ y
  heads_same x y xs ys up down in_ys in_xs = ⊎_elim
      (λ (e : x ≡ y). e)
      (λ (before : R y x). ⊎_elim
      (λ (e : y ≡ x). sym e)
      (λ (after : R x y). absurd (irreflexive x (transitive x y x after before)))
      (at_head y x xs in_xs.0 up in_xs.1 in_xs.2))
      (at_head x y ys in_ys.0 down in_ys.1 in_ys.2)

  AllPairs-tail : (x : X) (xs : List X) → AllPairs R (x ∷ xs) → AllPairs R xs
  AllPairs-tail x xs up i j d below h = up (suc i) (suc j) d (omega arith) (omega arith)

  after_head : (x z : X) (xs : List X) → AllPairs R (x ∷ xs) → Contains xs z → R x z
  after_head x z xs up found = subst (R x) found.2 (up 0 (suc found.0) z (omega arith) (let h = found.1 in omega arith))

  pub same_sorted : (xs ys : List X) → AllPairs R xs → AllPairs R ys → ((x : X) → Contains xs x → Contains ys x) → ((x : X) → Contains ys x → Contains xs x) → xs ≡ ys
  same_sorted [] [] up down to from = refl
  same_sorted [] (y ∷ ys) up down to from = let none = (from y (0, omega arith, refl)).1 in absurd (omega arith)
  same_sorted (x ∷ xs) [] up down to from = let none = (to x (0, omega arith, refl)).1 in absurd (omega arith)
  same_sorted (x ∷ xs) (y ∷ ys) up down to from =
      let heads : x ≡ y = heads_same x y xs ys up down (to x (0, omega arith, refl)) (from y (0, omega arith, refl)) in
      let tails : xs ≡ ys = same_sorted xs ys (AllPairs-tail x xs up) (AllPairs-tail y ys down)
      (λ z found. let after = after_head x z xs up found in
      other_place z y ys (to z (suc found.0, (let h = found.1 in omega arith), found.2)) (λ e. irreflexive z (subst (λ w. R w z) (heads ∙ sym e) after)))
      (λ z found. let after = after_head y z ys down found in
      other_place z x xs (from z (suc found.0, (let h = found.1 in omega arith), found.2)) (λ e. irreflexive z (subst (λ w. R w z) (sym heads ∙ sym e) after))) in
      λ i. heads i ∷ tails i
