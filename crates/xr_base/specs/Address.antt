-- Which addresses hold file data, and which runs do.
use Rattle.std.specs.Prelude.{◌≡◌, ℕ, ◌+◌, ◌/◌, ◌%◌, ◌<◌, ◌≤◌}
use Rattle.xr_base.specs.declared.address.Addr.{Addr}
use Rattle.xr_base.specs.declared.address.Run.{Run}
use Rattle.xr_base.specs.declared.geometry.TheConstants.{GROUPS, GROUP_BLOCKS, FIRST_DATA_BLOCK}

-- the address with a number
abbrev pub address_of : ℕ → Addr
address_of n = record { 0 = n }

-- the group of an address, and its block there
abbrev pub group_number : Addr → ℕ
group_number a = a.0 / GROUP_BLOCKS

abbrev pub block_number : Addr → ℕ
block_number a = a.0 % GROUP_BLOCKS

-- the address so many blocks on
abbrev pub address_after : Addr → ℕ → Addr
address_after a i = address_of (a.0 + i)

-- a data block of one of the groups
pub record IsData (a : Addr) : Type 0 where
  pub group : group_number a < GROUPS
  pub block : FIRST_DATA_BLOCK ≤ block_number a

-- the run isn't empty, and its blocks are data blocks of one group
pub record IsGoodRun (r : Run) : Type 0 where
  pub some : 0 < r.len
  pub data_blocks : (i : ℕ) → i < r.len → IsData (address_after r.start i)
  pub one_group : (i : ℕ) → i < r.len → group_number (address_after r.start i) ≡ group_number r.start
