-- Of no public contract: what the search for owners has found on its way, file by file and offset by offset.
use Rattle.std.specs.Prelude.{◌≡◌, ℕ, ◌+◌, ◌*◌, ◌<◌, List, All, AllPairs, Any}
use Rattle.xr_base.specs.declared.address.Addr.{Addr}
use Rattle.xr_base.specs.declared.geometry.TheConstants.{OFFSETS, FIRST_INODE}
use Rattle.xr_base.specs.Address.{group_number}
use Rattle.xr_maps.specs.declared.records.Extent.{Extent}
use Rattle.xr_maps.specs.declared.records.Rev.{Rev}
use Rattle.xr_maps.specs.FileMaps.{FileMaps, IsOwner}
use Rattle.xr_maps.specs.Records.{IsReverseRecord, CoversOwner}

-- the offsets of all files, one file after another
abbrev pub place_of : ℕ → ℕ → ℕ
place_of file off = OFFSETS * (FIRST_INODE + file) + off

-- the reverse record of an extent
abbrev pub record_of : Extent → ℕ → Rev
record_of e file = record { run = record { start = e.at; len = e.len }; owner = FIRST_INODE + file; off = e.off }

-- where a record's first block is owned
abbrev pub owner_place : Rev → ℕ
owner_place r = OFFSETS * r.owner + r.off

-- the reverse records of what is owned at the places below a bound, in the order of the places
pub record AreOwnersBelow (maps : FileMaps) (group bound : ℕ) (records : List Rev) : Type 0 where
  pub each : All (IsReverseRecord maps group) records
  pub offsets : All (λ r. r.off < OFFSETS) records
  pub rising : AllPairs (λ r s. owner_place r < owner_place s) records
  pub within : All (λ r. owner_place r < bound) records
  pub every : (a : Addr) (file off : ℕ) → place_of file off < bound → group_number a ≡ group → IsOwner maps a file off → Any (CoversOwner a file off) records
