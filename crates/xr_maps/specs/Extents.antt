-- Of no public contract: what the search for extents finds on its way.
use Rattle.std.specs.Prelude.{◌≡◌, ◌≢◌, ℕ, ◌+◌, ◌<◌, ◌≤◌, List, length, Option, None, Some}
use Rattle.xr_base.specs.declared.address.Addr.{Addr}
use Rattle.xr_base.specs.Address.{address_after}
use Rattle.xr_maps.specs.declared.records.Extent.{Extent}
use Rattle.xr_maps.specs.Tables.{slot_of}

-- from off on so many slots have one address after another, and the slot after them doesn't go on so
pub record IsExtentLen (table : List (Option Addr)) (off : ℕ) (at : Addr) (len : ℕ) : Type 0 where
  pub some : 0 < len
  pub within : off + len ≤ length table
  pub together : (i : ℕ) → i < len → slot_of table (off + i) ≡ Some (address_after at i)
  pub ended : off + len < length table → slot_of table (off + len) ≢ Some (address_after at len)

-- nothing is mapped from one offset up to another
abbrev pub AreHoles : List (Option Addr) → ℕ → ℕ → Type 0
AreHoles table from to = (off : ℕ) → from ≤ off → off < to → slot_of table off ≡ None

-- the extent goes on as long as it can, and holes alone stand between the offset and it
pub record IsNextExtent (table : List (Option Addr)) (from : ℕ) (e : Extent) : Type 0 where
  pub after : from ≤ e.off
  pub holes : AreHoles table from e.off
  pub extent : IsExtentLen table e.off e.at e.len
