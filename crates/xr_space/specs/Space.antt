-- A group's free blocks, in two trees of one overlay that hold the same runs: which blocks are free, and what a change of
-- them leaves.
use Rattle.std.specs.Prelude.{◌≡◌, ℕ, ◌+◌, ◌≤◌, List, ◌++◌, length, min, IfSome, Option, Some, true, false}
use Rattle.std.specs.Ordering.{is_lt}
use Rattle.std.specs.List.{Contains}
use Rattle.xr_kinds.specs.declared.free_runs.ByBlock.{ByBlock}
use Rattle.xr_kinds.specs.declared.free_runs.BySize.{BySize}
use Rattle.xr_kinds.specs.declared.span.Span.{Span}
use Rattle.xr_block.specs.Frame.{ChangesOnly}
use Rattle.xr_kinds.specs.FreeRuns.{block_form, by_block, by_size, size_form, size_order}
use Rattle.xr_pool.specs.Overlay.{Blocks, changed_blocks, free_count}
use Rattle.xr_kinds.specs.Spans.{IsIn, is_group_run, touch}
use Rattle.xr_space.specs.declared.space.Space.{Space}
use Rattle.xr_block.specs.Trees.{IsTree, blocks_of_tree, records_of_tree}

-- what the two trees hold, and the blocks in which they stand
abbrev pub block_records : Blocks → Space → List ByBlock
block_records b s = records_of_tree block_form b s.by_block

abbrev pub size_records : Blocks → Space → List BySize
size_records b s = records_of_tree size_form b s.by_size

abbrev pub block_blocks : Blocks → Space → List ℕ
block_blocks b s = blocks_of_tree block_form b s.by_block

abbrev pub size_blocks : Blocks → Space → List ℕ
size_blocks b s = blocks_of_tree size_form b s.by_size

abbrev pub space_blocks : Blocks → Space → List ℕ
space_blocks b s = block_blocks b s ++ size_blocks b s

-- two trees that share no block
pub record IsSpace (b : Blocks) (s : Space) : Type 0 where
  pub blocks : IsTree block_form b s.by_block
  pub sizes : IsTree size_form b s.by_size
  pub separate : (n : ℕ) → Contains (block_blocks b s) n → ¬ (Contains (size_blocks b s) n)

-- a run is one of the free runs, by the one tree and by the other
abbrev pub IsFreeRun : Blocks → Space → Span → Type 0
IsFreeRun b s run = Contains (block_records b s) (by_block run)

abbrev pub IsRunBySize : Blocks → Space → Span → Type 0
IsRunBySize b s run = Contains (size_records b s) (by_size run)

-- each tree holds the runs of the other
pub record ArePaired (b : Blocks) (s : Space) : Type 0 where
  pub sized : (run : Span) → IsFreeRun b s run → IsRunBySize b s run
  pub free : (run : Span) → IsRunBySize b s run → IsFreeRun b s run

abbrev pub IsFreeBlock : Blocks → Space → ℕ → Type 0
IsFreeBlock b s n = (run : Span) × IsFreeRun b s run × IsIn run n

-- the free run with the lowest start
pub record IsLowest (b : Blocks) (s : Space) (whole : Span) : Type 0 where
  pub held : IsFreeRun b s whole
  pub lowest : (run : Span) → IsFreeRun b s run → whole.start ≤ run.start

-- of the runs that begin at a place or after it the first, by block
pub record IsNextFree (b : Blocks) (s : Space) (place : ℕ) (run : Span) : Type 0 where
  pub held : IsFreeRun b s run
  pub good : is_group_run run ≡ true
  pub after : place ≤ run.start
  pub first : (other : Span) → IsFreeRun b s other → place ≤ other.start → run.start ≤ other.start

-- of the runs that aren't below another the first, by size
pub record IsNextSized (b : Blocks) (s : Space) (from run : Span) : Type 0 where
  pub held : IsRunBySize b s run
  pub good : is_group_run run ≡ true
  pub after : is_lt (size_order run from) ≡ false
  pub first : (other : Span) → IsRunBySize b s other → is_lt (size_order other from) ≡ false → is_lt (size_order other run) ≡ false

-- the first blocks of the free run with the lowest start, as many as are needed or as it has
pub record IsFrontOfLowest (b : Blocks) (s : Space) (need : ℕ) (run : Span) : Type 0 where
  pub whole : Span
  pub first : IsLowest b s whole
  pub start : run.start ≡ whole.start
  pub len : run.len ≡ min need whole.len

-- a change of the two trees, which takes at most so many blocks of the pool, and leaves at most so many changed blocks more
pub record IsStep (before : Blocks) (s : Space) (after : Blocks) (t : Space) (most writes : ℕ) : Type 0 where
  pub space : IsSpace after t
  pub frame : ChangesOnly before (space_blocks before s) after (space_blocks after t)
  pub room : free_count before ≤ free_count after + most
  pub changed : length (changed_blocks after) ≤ length (changed_blocks before) + writes

-- a run that may be made free: it is good, none of it is free, and no free run touches it but the given one
pub record IsLoose (free : Span → Type 0) (run : Span) (beside : Option Span) : Type 0 where
  pub good : is_group_run run ≡ true
  pub taken : (n : ℕ) (other : Span) → IsIn run n → free other → ¬ (IsIn other n)
  pub held : IfSome beside (λ other. free other × (touch other run ≡ true))
  pub only : (other : Span) → free other → touch other run ≡ true → beside ≡ Some other
