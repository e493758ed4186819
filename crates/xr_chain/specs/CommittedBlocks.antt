-- What is committed, as the balance sees it: a function of the blocks of files and groups.
use Rattle.std.specs.Prelude.{◌≡◌, ℕ, ◌+◌, ◌/◌, ◌&&◌, Bool, false, nat_lt, List, Option, Some, None, length, map, slice_get, slice_set}
use Rattle.xr_balance.specs.Settled.{Committed}
use Rattle.xr_base.specs.declared.geometry.TheConstants.{FILES, FIRST_INODE, GROUP_BLOCKS, OFFSETS, OWN_COW}
use Rattle.xr_bmap.specs.File.{FileState, slot_of_file}
use Rattle.xr_group.specs.Group.{GroupState, records_now}
use Rattle.xr_group.specs.Sets.{has_free, has_pair, has_staged, owner_count_in}
use Rattle.xr_maps.specs.FileMaps.{FileMaps, tabulated}
use Rattle.xr_open.specs.PoolState.{PoolState}

-- the maps of some files
abbrev pub maps_of_files : List FileState → FileMaps
maps_of_files files = map (λ f. tabulated OFFSETS (slot_of_file f)) files

-- what a member of a list tells, or what is so where there is no such member
abbrev pub told_by : {X A : Type 0} → A → (X → A) → Option X → A
told_by none tells (Some g) = tells g
told_by none tells None = none

-- the group with the block's number
abbrev pub group_of_block : List GroupState → ℕ → Option GroupState
group_of_block groups b = slice_get groups (b / GROUP_BLOCKS)

-- a file has the block at an offset, by the group's tree of owners
abbrev pub has_file_pair : GroupState → ℕ → ℕ → ℕ → Bool
has_file_pair g f o b = nat_lt f FILES && has_pair g (FIRST_INODE + f) o b

abbrev pub committed_of : List FileState → List GroupState → Committed
committed_of files groups = record {
  groups = length groups;
  maps = maps_of_files files;
  has_pair = λ f o b. told_by false (λ g. has_file_pair g f o b) (group_of_block groups b);
  has_staging_pair = λ b. told_by false (λ g. has_pair g OWN_COW 0 b) (group_of_block groups b);
  counted = λ b. told_by 1 (λ g. owner_count_in g b) (group_of_block groups b);
  is_staged = λ b. told_by false (λ g. has_staged g b) (group_of_block groups b);
  is_free = λ b. told_by false (λ g. has_free g b) (group_of_block groups b);
}

-- how many records of owners each group has
abbrev pub owner_records_of : List GroupState → ℕ → ℕ
owner_records_of groups n = told_by 0 (λ g. length (records_now g).reverse) (slice_get groups n)

-- a file or a group stands in a list of all at its number, and is put there
abbrev pub IsListed : List PoolState → PoolState → Type 0
IsListed states s = slice_get states s.number ≡ Some s

abbrev pub with_state : List PoolState → PoolState → List PoolState
with_state states s = slice_set states s.number s
