-- The sets that a group holds, by addresses of the image: which blocks are free, who owns which, how many own a block, and which are
-- staged; and what the calls make of them.
use Rattle.std.specs.Prelude.{◌≡◌, ◌↔◌, ℕ, ◌+◌, ◌-◌, ◌*◌, ◌/◌, ◌%◌, ◌<◌, ◌≤◌, ◌==◌, ◌&&◌, ◌||◌, Bool, true, false, not, if◌then◌else◌}
use Rattle.std.specs.List.{Contains, list_any}
use Rattle.xr_base.specs.Address.{address_of, block_number}
use Rattle.xr_base.specs.declared.address.Run.{Run}
use Rattle.xr_base.specs.declared.geometry.TheConstants.{GROUP_BLOCKS, OWN_COW}
use Rattle.xr_group.specs.Group.{GroupState, IsRunOf, records_now}
use Rattle.xr_kinds.specs.FreeRuns.{block_span, by_block, by_size}
use Rattle.xr_kinds.specs.Reverse.{reverse_span}
use Rattle.xr_kinds.specs.Spans.{span}
use Rattle.xr_kinds.specs.declared.free_runs.ByBlock.{ByBlock}
use Rattle.xr_kinds.specs.declared.reverse.Reverse.{Reverse}
use Rattle.xr_kinds.specs.declared.span.Span.{Span}
use Rattle.xr_maps.specs.Steps.{is_within}
use Rattle.xr_maps.specs.declared.records.Counted.{Counted}
use Rattle.xr_refcount.specs.Counts.{count_at, is_in_run, is_staged_at}

-- an address is one of the group's
abbrev pub is_in_group : GroupState → ℕ → Bool
is_in_group g a = a / GROUP_BLOCKS == g.number

-- a run by its blocks' numbers in their group
abbrev pub group_span : Run → Span
group_span run = span (block_number run.start) run.len

-- and back
abbrev pub run_at : ℕ → Span → Run
run_at number s = record { start = address_of (GROUP_BLOCKS * number + s.start); len = s.len }

-- a record says that the owner has the block n of the group at an offset
abbrev pub says_pair : Reverse → ℕ → ℕ → ℕ → Bool
says_pair r owner off n = (r.owner == owner) && is_in_run (reverse_span r) n && (if r.owner == OWN_COW then off == 0 else off + r.start == r.off + n)

abbrev pub has_free : GroupState → ℕ → Bool
has_free g a = is_in_group g a && list_any (λ (r : ByBlock). is_in_run (block_span r) (a % GROUP_BLOCKS)) (records_now g).by_block

abbrev pub has_pair : GroupState → ℕ → ℕ → ℕ → Bool
has_pair g owner off a = is_in_group g a && list_any (λ (r : Reverse). says_pair r owner off (a % GROUP_BLOCKS)) (records_now g).reverse

-- a block without a shared record counts 1
abbrev pub owner_count_in : GroupState → ℕ → ℕ
owner_count_in g a = if is_in_group g a then count_at (records_now g).reference (a % GROUP_BLOCKS) else 1

abbrev pub has_staged : GroupState → ℕ → Bool
has_staged g a = is_in_group g a && is_staged_at (records_now g).reference (a % GROUP_BLOCKS)

-- the pairs of a run with an owner: the offsets run on with the blocks, or all are 0
abbrev pub is_run_pair : Run → ℕ → ℕ → ℕ → ℕ → ℕ → Bool
is_run_pair run owner off w o a =
    (owner == w) && is_within run.start.0 run.len a && (if owner == OWN_COW then o == 0 else o + run.start.0 == off + a)

-- none of them is there, or all are
abbrev pub HasNoPairOf : GroupState → Run → ℕ → ℕ → Type 0
HasNoPairOf g run owner off = (w o a : ℕ) → is_run_pair run owner off w o a ≡ true → has_pair g w o a ≡ false

abbrev pub HasPairsOf : GroupState → Run → ℕ → ℕ → Type 0
HasPairsOf g run owner off = (w o a : ℕ) → is_run_pair run owner off w o a ≡ true → has_pair g w o a ≡ true

-- they come, or they go
abbrev pub AddsPairs : Run → ℕ → ℕ → GroupState → GroupState → Type 0
AddsPairs run owner off old new = (w o a : ℕ) → has_pair new w o a ≡ (has_pair old w o a || is_run_pair run owner off w o a)

abbrev pub RemovesPairs : Run → ℕ → ℕ → GroupState → GroupState → Type 0
RemovesPairs run owner off old new = (w o a : ℕ) → has_pair new w o a ≡ (has_pair old w o a && not (is_run_pair run owner off w o a))

-- each block of a run has so many owners, and is staged or isn't
abbrev pub IsCountedIn : GroupState → ℕ → ℕ → Bool → Type 0
IsCountedIn g a count staged = (owner_count_in g a ≡ count) × (has_staged g a ≡ staged)

abbrev pub AreCountedIn : GroupState → Run → ℕ → Bool → Type 0
AreCountedIn g run count staged = (a : ℕ) → is_within run.start.0 run.len a ≡ true → IsCountedIn g a count staged

-- as many as the first, and none is staged
abbrev pub AreOwnedAlikeIn : GroupState → Run → Type 0
AreOwnedAlikeIn g run = AreCountedIn g run (owner_count_in g run.start.0) false

abbrev pub AreStagedIn : GroupState → Run → Type 0
AreStagedIn g run = (a : ℕ) → is_within run.start.0 run.len a ≡ true → has_staged g a ≡ true

-- the longest part at the front of a run whose blocks have one number of owners, and of which all are staged or none is
pub record IsFirstPart (g : GroupState) (run : Run) (part : Counted) : Type 0 where
  pub start : part.run.start ≡ run.start
  pub some : 1 ≤ part.run.len
  pub within : part.run.len ≤ run.len
  pub alike : AreCountedIn g part.run part.count part.staged
  pub longest : part.run.len < run.len → ¬ (IsCountedIn g (run.start.0 + part.run.len) part.count part.staged)

-- each block of a run has one owner more, or one less
pub record RaisesCounts (run : Run) (old new : GroupState) : Type 0 where
  pub counts : (a : ℕ) → owner_count_in new a ≡ (if is_within run.start.0 run.len a then owner_count_in old a + 1 else owner_count_in old a)
  pub staged : (a : ℕ) → has_staged new a ≡ has_staged old a

pub record LowersCounts (run : Run) (old new : GroupState) : Type 0 where
  pub counts : (a : ℕ) → owner_count_in new a ≡ (if is_within run.start.0 run.len a then owner_count_in old a - 1 else owner_count_in old a)
  pub staged : (a : ℕ) → has_staged new a ≡ has_staged old a

-- the blocks of a run are staged, or no longer are
pub record StagesAddresses (run : Run) (old new : GroupState) : Type 0 where
  pub counts : (a : ℕ) → owner_count_in new a ≡ owner_count_in old a
  pub staged : (a : ℕ) → has_staged new a ≡ (has_staged old a || is_within run.start.0 run.len a)

pub record UnstagesAddresses (run : Run) (old new : GroupState) : Type 0 where
  pub counts : (a : ℕ) → owner_count_in new a ≡ owner_count_in old a
  pub staged : (a : ℕ) → has_staged new a ≡ (has_staged old a && not (is_within run.start.0 run.len a))

-- both trees of free runs hold the same runs
abbrev pub IsPaired : GroupState → Type 0
IsPaired g = (run : Span) → Contains (records_now g).by_block (by_block run) ↔ Contains (records_now g).by_size (by_size run)

-- the first free blocks, as many as are needed or as stand together
pub record IsFirstFree (g : GroupState) (need : ℕ) (run : Run) : Type 0 where
  pub mine : IsRunOf g run
  pub free : (a : ℕ) → is_within run.start.0 run.len a ≡ true → has_free g a ≡ true
  pub first : (a : ℕ) → has_free g a ≡ true → run.start.0 ≤ a
  pub most : run.len ≤ need
  pub longest : run.len < need → has_free g (run.start.0 + run.len) ≡ false

-- a run's blocks are free no more, or are free now
abbrev pub TakesFree : Run → GroupState → GroupState → Type 0
TakesFree run old new = (a : ℕ) → has_free new a ≡ (has_free old a && not (is_within run.start.0 run.len a))

abbrev pub GivesFree : Run → GroupState → GroupState → Type 0
GivesFree run old new = (a : ℕ) → has_free new a ≡ (has_free old a || is_within run.start.0 run.len a)

abbrev pub HasNoFreeOf : GroupState → Run → Type 0
HasNoFreeOf g run = (a : ℕ) → is_within run.start.0 run.len a ≡ true → has_free g a ≡ false
