-- What each call tells or changes, in counts and staged blocks.
use Rattle.std.specs.Prelude.{◌≡◌, ℕ, ◌+◌, ◌-◌, ◌<◌, ◌≤◌, ◌&&◌, ◌||◌, not, if◌then◌else◌, List}
use Rattle.xr_kinds.specs.Spans.{end_of}
use Rattle.xr_kinds.specs.declared.reference.Reference.{Reference}
use Rattle.xr_kinds.specs.declared.span.Span.{Span}
use Rattle.xr_refcount.specs.Counts.{IsCountedAs, AreCountedAs, count_at, is_in_run, is_staged_at}
use Rattle.xr_refcount.specs.declared.refcount.CountedSpan.{CountedSpan}

-- the longest part at the front of a run whose blocks have one count and are of one kind
pub record IsFirstEqual (records : List Reference) (run : Span) (part : CountedSpan) : Type 0 where
  pub start : part.run.start ≡ run.start
  pub some : 1 ≤ part.run.len
  pub within : part.run.len ≤ run.len
  pub alike : AreCountedAs records part.run part.count part.staged
  pub longest : part.run.len < run.len → ¬ (IsCountedAs records (end_of part.run) part.count part.staged)

-- each block of a run has one owner more, and those of the others are as many as before
pub record Raises (before : List Reference) (run : Span) (after : List Reference) : Type 0 where
  pub counts : (n : ℕ) → count_at after n ≡ (if is_in_run run n then count_at before n + 1 else count_at before n)
  pub staged : (n : ℕ) → is_staged_at after n ≡ is_staged_at before n

pub record Lowers (before : List Reference) (run : Span) (after : List Reference) : Type 0 where
  pub counts : (n : ℕ) → count_at after n ≡ (if is_in_run run n then count_at before n - 1 else count_at before n)
  pub staged : (n : ℕ) → is_staged_at after n ≡ is_staged_at before n

-- the blocks of a run are staged, or no longer are, and all counts stay
pub record StagesRun (before : List Reference) (run : Span) (after : List Reference) : Type 0 where
  pub counts : (n : ℕ) → count_at after n ≡ count_at before n
  pub staged : (n : ℕ) → is_staged_at after n ≡ (is_staged_at before n || is_in_run run n)

pub record UnstagesRun (before : List Reference) (run : Span) (after : List Reference) : Type 0 where
  pub counts : (n : ℕ) → count_at after n ≡ count_at before n
  pub staged : (n : ℕ) → is_staged_at after n ≡ (is_staged_at before n && not (is_in_run run n))
