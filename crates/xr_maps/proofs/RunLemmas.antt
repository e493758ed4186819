-- The longest runs found so far, in a search from the front.
use Rattle.std.proofs.Common.{◌≡◌, ℕ, ◌+◌, ◌-◌, ◌<◌, ◌≤◌, List, [], ◌∷◌, ◌++◌, subst, arith, rules, ⊎_elim, ◌∙◌}
use Rattle.std.specs.Prelude.{All, AllPairs, Any}
use Rattle.std.proofs.lemmas.List.{get_or_append_left, length-append}
use Rattle.std.proofs.lemmas.List.Quantifiers.{all_pairs_push, Any-push}
use Rattle.std.proofs.lemmas.List.Elements.{All-push}
use Rattle.std.proofs.lemmas.Bool.{cases_lt}
use Rattle.xr_maps.specs.Runs.{Span, Covers, IsLongestRun, AreLongestRuns}

-- the definition cut at n, where no run goes on from below n
pub record AreRunsBelow (IsThere IsJoined : ℕ → Type 0) (n : ℕ) (spans : List Span) : Type 0 where
  pub each : All (IsLongestRun IsThere IsJoined) spans
  pub rising : AllPairs (λ s t. s.start + s.len ≤ t.start) spans
  pub within : All (λ s. s.start + s.len ≤ n) spans
  pub every : (k : ℕ) → k < n → IsThere k → Any (Covers k) spans
  pub broken : (k : ℕ) → k + 1 ≡ n → ¬ IsJoined k

-- a run that begins at n, and ends where the next position isn't joined
pub record BeginsRun (IsThere IsJoined : ℕ → Type 0) (n len : ℕ) : Type 0 where
  pub some : 0 < len
  pub there : (k : ℕ) → n ≤ k → k < n + len → IsThere k
  pub joined : (k : ℕ) → n ≤ k → k + 1 < n + len → IsJoined k
  pub ended : (k : ℕ) → k + 1 ≡ n + len → ¬ IsJoined k

-- what holds of some element still does after a push
any_before : (P : Span → Type 0) (spans : List Span) (s : Span) → Any P spans → Any P (spans ++ s ∷ [])
any_before P spans s found =
    (found.0, found.1, omega (arith, length-append spans (s ∷ [])), get_or_append_left spans (s ∷ []) found.1 found.0 found.2 ∙ found.3, found.4)

module _ {IsThere IsJoined : ℕ → Type 0} where
  pub none_below : (n : ℕ) → ((k : ℕ) → k < n → ¬ IsThere k) → ((k : ℕ) → k + 1 ≡ n → ¬ IsJoined k) → AreRunsBelow IsThere IsJoined n []
  none_below n none broken = record {
    each = search rules;
    rising = search rules;
    within = search rules;
    every = λ k h t. absurd (none k h t);
    broken = broken;
  }

  is_longest : (n len : ℕ) (spans : List Span) → AreRunsBelow IsThere IsJoined n spans → BeginsRun IsThere IsJoined n len
      → IsLongestRun IsThere IsJoined (record { start = n; len = len })
  is_longest n len spans so_far run = record {
    some = run.some;
    there = λ k c. run.there k c.begun c.not_ended;
    joined = λ k c d. run.joined k c.begun d.not_ended;
    left = so_far.broken;
    right = run.ended;
  }

  covered : (k n len : ℕ) (spans : List Span) → AreRunsBelow IsThere IsJoined n spans → k < n + len → IsThere k
      → Any (Covers k) (spans ++ record { start = n; len = len } ∷ [])
  covered k n len spans so_far h t =
      ⊎_elim
      (λ (below : k < n). any_before (Covers k) spans _ (so_far.every k below t))
      (λ (above : n ≤ k). Any-push (Covers k) spans _ (record { begun = above; not_ended = h }))
      (cases_lt k n)

  pub runs_push : (n len : ℕ) (spans : List Span) → AreRunsBelow IsThere IsJoined n spans → BeginsRun IsThere IsJoined n len
      → AreRunsBelow IsThere IsJoined (n + len) (spans ++ record { start = n; len = len } ∷ [])
  runs_push n len spans so_far run = record {
    each = All-push (IsLongestRun IsThere IsJoined) spans _ so_far.each (is_longest n len spans so_far run);
    rising = all_pairs_push (λ s t. s.start + s.len ≤ t.start) spans _ so_far.rising so_far.within;
    within = All-push (λ s. s.start + s.len ≤ n + len) spans _ (λ k d h. omega (arith, so_far.within k d h)) (omega arith);
    every = λ k h t. covered k n len spans so_far h t;
    broken = run.ended;
  }

  -- no run begins in the next len positions
  pub runs_skip : (n len : ℕ) (spans : List Span) → AreRunsBelow IsThere IsJoined n spans → ((k : ℕ) → IsJoined k → IsThere k)
      → ((k : ℕ) → n ≤ k → k < n + len → ¬ IsThere k) → AreRunsBelow IsThere IsJoined (n + len) spans
  runs_skip n len spans so_far joined_there none = record {
    each = so_far.each;
    rising = so_far.rising;
    within = λ k d h. omega (arith, so_far.within k d h);
    every = λ k h t. ⊎_elim
        (λ (below : k < n). so_far.every k below t)
        (λ (above : n ≤ k). absurd (none k above h t))
        (cases_lt k n);
    broken = λ k e j. ⊎_elim
        (λ (below : k < n). so_far.broken k (let l : 0 < len → ⊥ = λ some. none (n + len - 1) (omega arith) (omega arith) (subst IsThere (let last : k ≡ n + len - 1 = omega arith in last) (joined_there k j)) in omega arith) j)
        (λ (above : n ≤ k). none k above (omega arith) (joined_there k j))
        (cases_lt k n);
  }

  pub runs_all : (n : ℕ) (spans : List Span) → AreRunsBelow IsThere IsJoined n spans → ((k : ℕ) → IsThere k → k < n)
      → AreLongestRuns IsThere IsJoined spans
  runs_all n spans so_far inside = record {
    each = so_far.each;
    rising = so_far.rising;
    every = λ k t. so_far.every k (inside k t) t;
  }

-- longest runs stay so where what is there and what is joined is said in other words
pub runs_same : {T U J K : ℕ → Type 0} (spans : List Span) → ((k : ℕ) → T k → U k) → ((k : ℕ) → U k → T k) → ((k : ℕ) → J k → K k) → ((k : ℕ) → K k → J k)
    → AreLongestRuns T J spans → AreLongestRuns U K spans
runs_same spans to from on off runs = record {
  each = λ k d h. let one = runs.each k d h in record {
    some = one.some;
    there = λ p c. to p (one.there p c);
    joined = λ p c e. on p (one.joined p c e);
    left = λ p e j. one.left p e (off p j);
    right = λ p e j. one.right p e (off p j);
  };
  rising = runs.rising;
  every = λ k u. runs.every k (from k u);
}
