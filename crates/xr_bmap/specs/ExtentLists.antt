-- That the extents of a file are the list that is defined from its map.
use Rattle.std.specs.Prelude.{◌≡◌, ℕ, List, map, Option}
use Rattle.xr_base.specs.Address.{address_of}
use Rattle.xr_base.specs.declared.address.Addr.{Addr}
use Rattle.xr_bmap.specs.File.{IsFile, extents_in}
use Rattle.xr_bmap.specs.Slots.{mapped_in}
use Rattle.xr_kinds.specs.declared.mapping.Mapping.{Mapping}
use Rattle.xr_maps.specs.Records.{AreExtentsOf}
use Rattle.xr_maps.specs.declared.records.Extent.{Extent}

-- an extent of a tree as one of a list
abbrev pub extent_of : Mapping → Extent
extent_of r = record { off = r.off; len = r.len; at = address_of r.at }

-- a file that maps its offsets so has the extents that are defined from them
abbrev pub ExtentsFollowFromMap : Type 0
ExtentsFollowFromMap =
    (file : ℕ) (uuid : List ℕ) (blocks : List (List ℕ)) (slots : ℕ → Option Addr) → IsFile file uuid blocks
    → ((o : ℕ) → mapped_in (extents_in file uuid blocks) o ≡ slots o) → AreExtentsOf slots (map extent_of (extents_in file uuid blocks))
