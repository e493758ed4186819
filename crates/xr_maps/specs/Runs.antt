-- The longest runs of positions that belong together. Extents, free records and reference records are such runs.
use Rattle.std.specs.Prelude.{◌≡◌, ℕ, ◌+◌, ◌<◌, ◌≤◌, List, All, AllPairs, Any}

-- len positions, from start on
pub record Span : Type 0 where
  pub start : ℕ
  pub len : ℕ

pub record Covers (k : ℕ) (s : Span) : Type 0 where
  pub begun : s.start ≤ k
  pub not_ended : k < s.start + s.len

-- each position of the span is there, each is joined to the next, and the span can't be longer on either side
pub record IsLongestRun (IsThere IsJoined : ℕ → Type 0) (s : Span) : Type 0 where
  pub some : 0 < s.len
  pub there : (k : ℕ) → Covers k s → IsThere k
  pub joined : (k : ℕ) → Covers k s → Covers (k + 1) s → IsJoined k
  pub left : (k : ℕ) → k + 1 ≡ s.start → ¬ IsJoined k
  pub right : (k : ℕ) → k + 1 ≡ s.start + s.len → ¬ IsJoined k

-- the longest runs, in rising order, with no position left out
pub record AreLongestRuns (IsThere IsJoined : ℕ → Type 0) (spans : List Span) : Type 0 where
  pub each : All (IsLongestRun IsThere IsJoined) spans
  pub rising : AllPairs (λ s t. s.start + s.len ≤ t.start) spans
  pub every : (k : ℕ) → IsThere k → Any (Covers k) spans
