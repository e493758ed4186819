-- What the records of a group tell of the sets that it holds, and their orders.
use Rattle.std.specs.Prelude.{◌≡◌, ◌↔◌, ℕ, ◌≤◌, true, false, List, length}
use Rattle.std.specs.List.{AllPairs, Contains}
use Rattle.xr_base.specs.declared.address.Run.{Run}
use Rattle.xr_group.specs.Group.{GroupState, IsGroup, IsRunOf, records_now}
use Rattle.xr_group.specs.Next.{IsCountedBefore, IsShorter, StartsBefore, counteds_now, frees_now, revs_now, sizes_now}
use Rattle.xr_group.specs.Sets.{AreCountedIn, HasPairsOf, IsCountedIn, IsPaired, group_span, has_free, has_pair, is_run_pair}
use Rattle.xr_kinds.specs.Reverse.{is_good_owner}
use Rattle.xr_maps.specs.Records.{IsBefore}
use Rattle.xr_maps.specs.Steps.{is_within}
use Rattle.xr_maps.specs.declared.records.Counted.{Counted}
use Rattle.xr_maps.specs.declared.records.Rev.{Rev}
use Rattle.xr_rmap.specs.Pairs.{Pair, pair}
use Rattle.xr_rmap.specs.Rmap.{owned_run}

-- each block of a run of the group is free
pub record TellsFree (g : GroupState) (run : Run) : Type 0 where
  pub mine : IsRunOf g run
  pub free : (a : ℕ) → is_within run.start.0 run.len a ≡ true → has_free g a ≡ true

-- an owner that may have a run of the group has each of its pairs
pub record TellsOwner (g : GroupState) (r : Rev) : Type 0 where
  pub mine : IsRunOf g r.run
  pub owner : is_good_owner (owned_run (group_span r.run) r.owner r.off) ≡ true
  pub pairs : HasPairsOf g r.run r.owner r.off

-- each block of a run of the group is counted so: staged blocks have one owner, all others two or more
pub record TellsCount (g : GroupState) (r : Counted) : Type 0 where
  pub mine : IsRunOf g r.run
  pub counted : AreCountedIn g r.run r.count r.staged
  pub one : r.staged ≡ true → r.count ≡ 1
  pub shared : r.staged ≡ false → 2 ≤ r.count

-- the records of each tree rise in its order
pub record RecordsRise (g : GroupState) : Type 0 where
  pub frees : AllPairs StartsBefore (frees_now g)
  pub sizes : AllPairs IsShorter (sizes_now g)
  pub revs : AllPairs IsBefore (revs_now g)
  pub counteds : AllPairs IsCountedBefore (counteds_now g)

-- what a record tells is so, and what is so is told by one: each free block, each pair, and each block that isn't of one owner alone
pub record TellsRecords (g : GroupState) : Type 0 where
  pub frees : (run : Run) → Contains (frees_now g) run → TellsFree g run
  pub sizes : (run : Run) → Contains (sizes_now g) run → IsRunOf g run
  pub revs : (r : Rev) → Contains (revs_now g) r → TellsOwner g r
  pub counteds : (r : Counted) → Contains (counteds_now g) r → TellsCount g r
  pub free_of : (a : ℕ) → has_free g a ≡ true → (run : Run) × Contains (frees_now g) run × (is_within run.start.0 run.len a ≡ true)
  pub pair_of : (w o a : ℕ) → has_pair g w o a ≡ true → (r : Rev) × Contains (revs_now g) r × (is_run_pair r.run r.owner r.off w o a ≡ true)
  pub count_of : (a : ℕ) → ¬ (IsCountedIn g a 1 false) → (r : Counted) × Contains (counteds_now g) r × (is_within r.run.start.0 r.run.len a ≡ true)
  pub rise : RecordsRise g

abbrev pub GroupsTellRecords : Type 0
GroupsTellRecords = (g : GroupState) → IsGroup g.number g.uuid g.blocks → TellsRecords g

-- where both trees of free runs hold the same runs, so do their lists by addresses
abbrev pub SizesAreFree : Type 0
SizesAreFree = (g : GroupState) → IsPaired g → (run : Run) → Contains (sizes_now g) run ↔ Contains (frees_now g) run

-- there are no more records of owners than pairs
abbrev pub OwnersAreNoMoreThanPairs : Type 0
OwnersAreNoMoreThanPairs =
    (g : GroupState) → IsGroup g.number g.uuid g.blocks → (pairs : List Pair)
    → ((w o a : ℕ) → has_pair g w o a ≡ true → Contains pairs (pair w o a)) → length (records_now g).reverse ≤ length pairs
