-- Which blocks a file maps, and at which offsets.
use Rattle.std.specs.Prelude.{ℕ, ◌<◌, List, IfSome, IsSome}
use Rattle.xr_base.specs.Address.{IsData}
use Rattle.xr_base.specs.declared.geometry.TheConstants.{OFFSETS}
use Rattle.xr_bmap.specs.File.{IsFile, extents_in}
use Rattle.xr_bmap.specs.Slots.{mapped_in}

-- what is mapped at an offset is a data block, and there is nothing past the last offset
abbrev pub MappedBlocksAreData : Type 0
MappedBlocksAreData =
    (file : ℕ) (uuid : List ℕ) (blocks : List (List ℕ)) → IsFile file uuid blocks → (o : ℕ)
    → IfSome (mapped_in (extents_in file uuid blocks) o) IsData × (IsSome (mapped_in (extents_in file uuid blocks) o) → o < OFFSETS)
