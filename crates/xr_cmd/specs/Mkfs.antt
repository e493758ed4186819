-- What a crash may leave while a fresh image is made.
use Rattle.std.specs.Prelude.{◌⊎◌, ℕ, List}
use Rattle.xr_base.specs.declared.geometry.TheConstants.{BLOCK_BYTES, BLOCKS}
use Rattle.xr_disk.specs.Crash.{Crash, SameOutside}
use Rattle.xr_disk.specs.Disk.{DiskView, LeavesOnly}
use Rattle.xr_disk.specs.Seen.{WasSeen}
use Rattle.xr_commit.specs.Refusals.{HasNoSuper}
use Rattle.xr_cmd.specs.Fresh.{HasFreshBlocks}

-- all blocks of an image but the first are those of a fresh one
abbrev pub HasFreshBody : List ℕ → ℕ → List ℕ → Type 0
HasFreshBody uuid cycle image = HasFreshBlocks uuid cycle 1 BLOCKS image

-- all blocks of an image but the first are those that a crash of the disk may have left
pub record KeepsBody (disk : DiskView) (image : List ℕ) : Type 0 where
  pub left : Crash
  pub may : disk.may_leave left
  pub others : SameOutside 0 BLOCK_BYTES left.image image

-- No half of an image has a superblock: a crash leaves no superblock, or all other blocks as they were, or all as they
-- will be.
abbrev pub LeavesNoHalf : List ℕ → ℕ → DiskView → Crash → Type 0
LeavesNoHalf uuid cycle disk c = HasNoSuper c.image ⊎ KeepsBody disk c.image ⊎ HasFreshBody uuid cycle c.image

-- so it was at each moment from the old disk to the new
abbrev pub LeavesNoHalves : List ℕ → ℕ → DiskView → DiskView → Type 0
LeavesNoHalves uuid cycle old new = WasSeen old.seen (λ _. LeavesOnly old new (LeavesNoHalf uuid cycle old))
