-- The records that are defined from the file maps.
use Rattle.std.specs.Prelude.{◌≡◌, ◌⊎◌, ℕ, ◌+◌, ◌-◌, ◌<◌, ◌≤◌, ◌==◌, Bool, false, if◌then◌else◌, suc, zero, Option, Some, IsSome, List, map, sum_by, All, AllPairs, Any}
use Rattle.std.specs.Option.{option_map_or}
use Rattle.std.specs.FinMap as finite
use Rattle.xr_base.specs.declared.address.Addr.{Addr}
use Rattle.xr_base.specs.declared.address.Run.{Run}
use Rattle.xr_base.specs.declared.geometry.TheConstants.{OFFSETS, FIRST_INODE}
use Rattle.xr_base.specs.Address.{IsData, address_of, address_after, group_number}
use Rattle.xr_maps.specs.declared.records.Extent.{Extent}
use Rattle.xr_maps.specs.declared.records.Rev.{Rev}
use Rattle.xr_maps.specs.declared.records.Counted.{Counted}
use Rattle.xr_maps.specs.FileMaps.{FileMaps, address_at, IsOwner}
use Rattle.xr_maps.specs.Runs.{Span, AreLongestRuns}

-- Extents

abbrev pub span_of_extent : Extent → Span
span_of_extent e = record { start = e.off; len = e.len }

-- the next offset has the next address
pub record RunsOn (slots : ℕ → Option Addr) (off : ℕ) : Type 0 where
  pub here : Addr
  pub is_here : slots off ≡ Some here
  pub is_next : slots (off + 1) ≡ Some (address_after here 1)

-- the longest runs of what is mapped in which offset and address rise together
pub record AreExtentsOf (slots : ℕ → Option Addr) (extents : List Extent) : Type 0 where
  pub runs : AreLongestRuns (λ off. IsSome (slots off)) (RunsOn slots) (map span_of_extent extents)
  pub starts : All (λ e. slots e.off ≡ Some e.at) extents

abbrev pub AreExtents : FileMaps → ℕ → List Extent → Type 0
AreExtents maps file extents = AreExtentsOf (address_at maps file) extents

-- Reverse records

-- the block is owned by that file at that offset, as the record says
pub record CoversOwner (address : Addr) (file off : ℕ) (r : Rev) : Type 0 where
  pub place : ℕ
  pub within : place < r.run.len
  pub is_block : address ≡ address_after r.run.start place
  pub is_owner : r.owner ≡ FIRST_INODE + file
  pub is_off : off ≡ r.off + place

-- the file owns the run's blocks of the group at offsets that rise with them, and the record can't be longer on either side
pub record IsReverseRecord (maps : FileMaps) (group : ℕ) (r : Rev) : Type 0 where
  pub some : 0 < r.run.len
  pub inode : FIRST_INODE ≤ r.owner
  pub in_group : (i : ℕ) → i < r.run.len → group_number (address_after r.run.start i) ≡ group
  pub owned : (i : ℕ) → i < r.run.len → IsOwner maps (address_after r.run.start i) (r.owner - FIRST_INODE) (r.off + i)
  pub left : (a : Addr) (off : ℕ) → a.0 + 1 ≡ r.run.start.0 → off + 1 ≡ r.off → ¬ IsOwner maps a (r.owner - FIRST_INODE) off
  pub right : ¬ IsOwner maps (address_after r.run.start r.run.len) (r.owner - FIRST_INODE) (r.off + r.run.len)

-- the order of reverse records: by start, then owner, then offset
abbrev pub IsBefore : Rev → Rev → Type 0
IsBefore r s =
    (r.run.start.0 < s.run.start.0)
    ⊎ (r.run.start.0 ≡ s.run.start.0) × ((r.owner < s.owner) ⊎ (r.owner ≡ s.owner) × (r.off < s.off))

-- the reverse records of a group, in their order, with no owner of its blocks left out
pub record AreReverseRecords (maps : FileMaps) (group : ℕ) (records : List Rev) : Type 0 where
  pub each : All (IsReverseRecord maps group) records
  pub rising : AllPairs IsBefore records
  pub every : (a : Addr) (file off : ℕ) → group_number a ≡ group → IsOwner maps a file off → Any (CoversOwner a file off) records

-- Reference and free records

-- how many numbers below n pass
unfoldable pub count_below : (ℕ → Bool) → ℕ → ℕ
count_below p zero = 0
count_below p (suc n) = count_below p n + (if p n then 1 else 0)

-- whether this block is mapped
abbrev pub maps_to : Addr → Option Addr → Bool
maps_to address slot = option_map_or (λ (a : Addr). a.0 == address.0) slot false

-- how many offsets have the block
abbrev pub offsets_with : (ℕ → Option Addr) → Addr → ℕ
offsets_with slots address = count_below (λ off. maps_to address (slots off)) OFFSETS

-- how many owners the block has: pairs of a file and an offset at which it maps the block
abbrev pub owner_count : FileMaps → Addr → ℕ
owner_count maps address = sum_by (λ m. offsets_with (finite.get m) address) maps

abbrev pub span_of_run : Run → Span
span_of_run r = record { start = r.start.0; len = r.len }

-- a data block of the group, whose number of owners has P
pub record IsCounted (maps : FileMaps) (group : ℕ) (P : ℕ → Type 0) (k : ℕ) : Type 0 where
  pub is_data : IsData (address_of k)
  pub in_group : group_number (address_of k) ≡ group
  pub wanted : P (owner_count maps (address_of k))

-- the block and the next one, with one number of owners
pub record AreCountedAlike (maps : FileMaps) (group : ℕ) (P : ℕ → Type 0) (k : ℕ) : Type 0 where
  pub here : IsCounted maps group P k
  pub next : IsCounted maps group P (k + 1)
  pub alike : owner_count maps (address_of k) ≡ owner_count maps (address_of (k + 1))

-- the longest runs of data blocks of the group with one number of owners, where that number has P
abbrev pub AreCountedRuns : FileMaps → ℕ → (ℕ → Type 0) → List Run → Type 0
AreCountedRuns maps group P runs = AreLongestRuns (IsCounted maps group P) (AreCountedAlike maps group P) (map span_of_run runs)

-- the reference records of a group: where that number is two or more
pub record AreReferenceRecords (maps : FileMaps) (group : ℕ) (records : List Counted) : Type 0 where
  pub runs : AreCountedRuns maps group (λ n. 2 ≤ n) (map (λ r. r.run) records)
  pub counts : All (λ r. r.count ≡ owner_count maps r.run.start) records
  pub unstaged : All (λ r. r.staged ≡ false) records

-- the free records of a group: where it is zero
abbrev pub AreFreeRecords : FileMaps → ℕ → List Run → Type 0
AreFreeRecords maps group runs = AreCountedRuns maps group (λ n. n ≡ 0) runs
