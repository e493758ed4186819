-- What single calls of formatting do to what a disk reads; of no public contract.
use Rattle.std.specs.Prelude.{◌≡◌, ℕ, ◌*◌, Some, List, length}
use Rattle.xr_base.specs.declared.geometry.TheConstants.{SECTOR_BYTES, SECTORS}
use Rattle.xr_disk.specs.Disk.{DiskView, IsAtRest}
use Rattle.xr_cmd.specs.Mkfs.{HasFreshBody}

-- an image of the disk's size
abbrev pub IsLong : List ℕ → Type 0
IsLong image = length image ≡ SECTOR_BYTES * SECTORS

-- what was seen, changed so, is seen
abbrev pub SeesAfter : (List ℕ → List ℕ) → DiskView → DiskView → Type 0
SeesAfter changed old new = (s : List ℕ) → old.seen ≡ Some s → new.seen ≡ Some (changed s)

-- the disk is at rest with an image of its size, of which all blocks but the first are those of a fresh one
pub record RestsOnFreshBody (uuid : List ℕ) (cycle : ℕ) (disk : DiskView) : Type 0 where
  pub image : List ℕ
  pub rest : IsAtRest image disk
  pub long : IsLong image
  pub body : HasFreshBody uuid cycle image
