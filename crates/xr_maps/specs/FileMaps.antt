-- The file maps: for each file, from its offsets to data addresses.
use Rattle.std.specs.Prelude.{◌≡◌, ℕ, ◌<◌, List, length, replicate, suc, zero, Option, None, Some, IsSome, IfSome, slice_index_or}
use Rattle.std.specs.Coded.{Coded, code_by, coded_ℕ, coded_list}
use Rattle.std.specs.Ordering.{nat_cmp}
use Rattle.std.specs.FinMap as map
use Rattle.std.proofs.Common.{refl}
use Rattle.xr_base.specs.Address.{IsData}
use Rattle.xr_base.specs.declared.address.Addr.{Addr}
use Rattle.xr_base.specs.declared.geometry.TheConstants.{FILES, OFFSETS}

-- the map of one file
abbrev pub FileMap : Type 0
FileMap = map.FinMap nat_cmp Addr

-- the maps of all files, by number
abbrev pub FileMaps : Type 0
FileMaps = List FileMap

abbrev pub address_code : Coded Addr
address_code = code_by ℕ coded_ℕ (λ a. a.0) (λ n. record { 0 = n }) (λ _. refl)

abbrev pub maps_code : Coded FileMaps
maps_code = coded_list (map.code coded_ℕ address_code)

-- the block that a file maps at an offset, if it maps one there
abbrev pub address_at : FileMaps → ℕ → ℕ → Option Addr
address_at maps file off = map.get (slice_index_or maps file map.empty) off

-- the maps where nothing is mapped
abbrev pub no_maps : FileMaps
no_maps = replicate FILES map.empty

-- the file maps the address at the offset
abbrev pub IsOwner : FileMaps → Addr → ℕ → ℕ → Type 0
IsOwner maps address file off = address_at maps file off ≡ Some address

-- a map for each file, from offsets to data addresses
pub record AreGoodMaps (maps : FileMaps) : Type 0 where
  pub files : length maps ≡ FILES
  pub offsets : (file off : ℕ) → IsSome (address_at maps file off) → off < OFFSETS
  pub data_blocks : (file off : ℕ) → IfSome (address_at maps file off) IsData

-- what a function says of one offset, put into a map
abbrev pub with_slot : FileMap → ℕ → Option Addr → FileMap
with_slot m off None = m
with_slot m off (Some a) = map.insert m off a

-- the map of what a function says of the offsets below n
unfoldable pub tabulated : ℕ → (ℕ → Option Addr) → FileMap
tabulated zero slots = map.empty
tabulated (suc n) slots = with_slot (tabulated n slots) n (slots n)
