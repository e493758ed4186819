-- Of no public contract: how the maps are kept, as a table for each file with a slot for each offset.
use Rattle.std.specs.Prelude.{◌≡◌, ℕ, List, length, map, All, Option, None, IfSome, slice_index_or}
use Rattle.std.specs.Global.{Vec}
use Rattle.xr_base.specs.Address.{IsData}
use Rattle.xr_base.specs.declared.address.Addr.{Addr}
use Rattle.xr_base.specs.declared.geometry.TheConstants.{FILES, OFFSETS}
use Rattle.xr_maps.specs.FileMaps.{FileMap, FileMaps, tabulated}

-- what a table says of an offset
abbrev pub slot_of : List (Option Addr) → ℕ → Option Addr
slot_of table off = slice_index_or table off None

abbrev pub map_of_table : List (Option Addr) → FileMap
map_of_table table = tabulated OFFSETS (slot_of table)

-- a slot for each offset, with data blocks alone
pub record IsTable (table : List (Option Addr)) : Type 0 where
  pub slots : length table ≡ OFFSETS
  pub data_blocks : (off : ℕ) → IfSome (slot_of table off) IsData

abbrev pub maps_of_tables : List (Vec (Option Addr)) → FileMaps
maps_of_tables tables = map (λ t. map_of_table t.items) tables

-- a table for each file
pub record AreTables (tables : List (Vec (Option Addr))) : Type 0 where
  pub files : length tables ≡ FILES
  pub each : All (λ t. IsTable t.items) tables
