-- That a transaction of the changed blocks of a file or a group makes of what was kept what is there now.
use Rattle.std.specs.Prelude.{◌≡◌, ℕ, ◌+◌, ◌<◌, ◌≤◌, List, [], slice_index_or}
use Rattle.std.specs.List.{All}
use Rattle.xr_base.specs.declared.geometry.TheConstants.{FILE_BLOCKS, FIRST_DATA_BLOCK}
use Rattle.xr_bmap.specs.File.{AreFileStates, FileState, first_of_file}
use Rattle.xr_chain.specs.Events.{logged_from}
use Rattle.xr_group.specs.Group.{AreGroups, GroupState, first_of_group}
use Rattle.xr_items.specs.Transactions.{IsNotAmong}
use Rattle.xr_items.specs.declared.trans.Logged.{Logged}
use Rattle.xr_open.specs.PoolState.{PoolState}

-- a transaction of these blocks makes of a block that was one thing another
pub record TurnsBlock (blocks : List Logged) (block : ℕ) (was is : List ℕ) : Type 0 where
  pub changed : All (λ (l : Logged). l.block ≡ block → l.image ≡ is) blocks
  pub unchanged : IsNotAmong block blocks → was ≡ is

-- the changed blocks of what has so many image blocks from the first one on: no others, and with them each is what it is now
pub record LogsChanges (first size : ℕ) (s : PoolState) : Type 0 where
  pub within : All (λ (l : Logged). (first ≤ l.block) × (l.block < first + size)) (logged_from first s)
  pub turns : (n : ℕ) → TurnsBlock (logged_from first s) (first + n) (slice_index_or s.kept n []) (slice_index_or s.blocks n [])

abbrev pub FilesLogChanges : Type 0
FilesLogChanges = (f : FileState) → AreFileStates f → LogsChanges (first_of_file f.number) FILE_BLOCKS f

abbrev pub GroupsLogChanges : Type 0
GroupsLogChanges = (g : GroupState) → AreGroups g → LogsChanges (first_of_group g.number) FIRST_DATA_BLOCK g
