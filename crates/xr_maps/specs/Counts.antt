-- Of no public contract: numbers of owners, block by block, and the runs that a search finds in them.
use Rattle.std.specs.Prelude.{◌≡◌, ◌≢◌, ℕ, ◌+◌, ◌-◌, ◌*◌, ◌<◌, ◌≤◌, List, length, map, slice_index, sum_by, All, false, Option}
use Rattle.std.specs.Global.{Vec}
use Rattle.xr_base.specs.declared.address.Addr.{Addr}
use Rattle.xr_base.specs.declared.geometry.TheConstants.{DATA_BLOCKS, GROUP_BLOCKS, FIRST_DATA_BLOCK}
use Rattle.xr_base.specs.Address.{address_of}
use Rattle.xr_maps.specs.declared.records.Counted.{Counted}
use Rattle.xr_maps.specs.declared.counts.Wanted.{Wanted}
use Rattle.xr_maps.specs.declared.counts.Wanted.TheVariants.{Free, Shared}
use Rattle.xr_maps.specs.FileMaps.{FileMaps}
use Rattle.xr_maps.specs.Runs.{AreLongestRuns}
use Rattle.xr_maps.specs.Records.{owner_count, offsets_with, span_of_run}
use Rattle.xr_maps.specs.Tables.{slot_of}

-- free blocks have no owner, shared ones have two or more
abbrev pub IsWanted : Wanted → ℕ → Type 0
IsWanted Free = λ n. n ≡ 0
IsWanted Shared = λ n. 2 ≤ n

-- the address of a group's first data block
abbrev pub first_data_of : ℕ → ℕ
first_data_of group = group * GROUP_BLOCKS + FIRST_DATA_BLOCK

-- how many slots of the tables have the block
abbrev pub owners_in_tables : List (Vec (Option Addr)) → Addr → ℕ
owners_in_tables tables address = sum_by (λ t. offsets_with (slot_of t.items) address) tables

-- the number of owners of each data block of the group
pub record AreOwnerCounts (maps : FileMaps) (group : ℕ) (counts : List ℕ) : Type 0 where
  pub blocks : length counts ≡ DATA_BLOCKS
  pub each : (i : ℕ) → i < DATA_BLOCKS → slice_index counts i ≡ owner_count maps (address_of (first_data_of group + i))

-- so many counts from one on are equal, and the next one isn't
pub record IsEqualLen (counts : List ℕ) (from len : ℕ) : Type 0 where
  pub some : 0 < len
  pub within : from + len ≤ length counts
  pub equal : (i : ℕ) → i < len → slice_index counts (from + i) ≡ slice_index counts from
  pub ended : from + len < length counts → slice_index counts (from + len) ≢ slice_index counts from

-- the address k is one of those counted, and its count has P
pub record HasCount (first : ℕ) (counts : List ℕ) (P : ℕ → Type 0) (k : ℕ) : Type 0 where
  pub above : first ≤ k
  pub below : k < first + length counts
  pub wanted : P (slice_index counts (k - first))

-- so are k and the next one, and their counts are equal
pub record HaveOneCount (first : ℕ) (counts : List ℕ) (P : ℕ → Type 0) (k : ℕ) : Type 0 where
  pub here : HasCount first counts P k
  pub next : HasCount first counts P (k + 1)
  pub alike : slice_index counts (k - first) ≡ slice_index counts (k + 1 - first)

-- the longest runs of addresses with one count that has P, each with its count
pub record AreRunsOfCounts (first : ℕ) (counts : List ℕ) (P : ℕ → Type 0) (records : List Counted) : Type 0 where
  pub runs : AreLongestRuns (HasCount first counts P) (HaveOneCount first counts P) (map span_of_run (map (λ r. r.run) records))
  pub counted : All (λ r. r.count ≡ slice_index counts (r.run.start.0 - first)) records
  pub unstaged : All (λ r. r.staged ≡ false) records

-- what is had of each of these runs, in their order
pub record HasRunsOfCounts {T : Type 0} (from_counted : Counted → T) (first : ℕ) (counts : List ℕ) (P : ℕ → Type 0) (records : List T) : Type 0 where
  pub runs : List Counted
  pub are : AreRunsOfCounts first counts P runs
  pub each : records ≡ map from_counted runs
