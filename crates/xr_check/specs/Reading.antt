-- What the parts of a load read, and why they are refused; of no public contract.
use Rattle.std.specs.Prelude.{◌≡◌, ⊤, ℕ, ◌+◌, ◌≤◌, List}
use Rattle.xr_base.specs.declared.geometry.TheConstants.{FILE_BLOCKS, FIRST_DATA_BLOCK}
use Rattle.xr_bmap.specs.OpenFile.{RefusesFile}
use Rattle.xr_check.specs.CleanImages.{bytes_of_file, bytes_of_group}
use Rattle.xr_check.specs.LoadRefusals.{BreaksFile, BreaksGroup, BreaksLog, told_of_open}
use Rattle.xr_check.specs.declared.fault.Broken.{Broken}
use Rattle.xr_check.specs.declared.fault.CheckFault.{CheckFault}
use Rattle.xr_check.specs.declared.fault.CheckFault.TheVariants.{Dirty, DiskFault, Foreign, NoMemory}
use Rattle.xr_commit.specs.LogEnds.{EndsWith}
use Rattle.xr_commit.specs.declared.log_ends.LogEnd.TheVariants.{InUse}
use Rattle.xr_disk.specs.Disk.{DiskView, OnlyReads}
use Rattle.xr_group.specs.OpenGroup.{RefusesGroup}
use Rattle.xr_open.specs.declared.fault.OpenFault.{OpenFault}
use Rattle.xr_pool.specs.Overlay.{blocks_in}

-- so many calls at most, which only read
pub record ReadsAtMost (calls : ℕ) (old new : DiskView) : Type 0 where
  pub reads : OnlyReads old new
  pub clock : new.moment ≤ old.moment + calls
  pub kept : old.faults ≤ new.faults

-- a refusal that names a block and a rule of which this is so, or that isn't the image's
abbrev pub NamesRule : (ℕ → Broken → Type 0) → CheckFault → Type 0
NamesRule P (Foreign block rule) = P block rule
NamesRule P (Dirty lsn) = ⊥
NamesRule P (DiskFault faults) = ⊤
NamesRule P NoMemory = ⊤

-- why a log is refused, one file, one group, and the files and the groups of an image
abbrev pub RefusesCleanLog : List ℕ → List ℕ → CheckFault → Type 0
RefusesCleanLog uuid log (Dirty lsn) = EndsWith uuid log (InUse lsn)
RefusesCleanLog uuid log fault = NamesRule (BreaksLog uuid log) fault

abbrev pub RefusesOneFile : List ℕ → List ℕ → ℕ → CheckFault → Type 0
RefusesOneFile image uuid file fault = NamesRule
    (λ block rule. (cause : OpenFault) × RefusesFile file uuid (blocks_in FILE_BLOCKS (bytes_of_file image file)) cause
    × (told_of_open cause ≡ Foreign block rule))
    fault

abbrev pub RefusesOneGroup : List ℕ → List ℕ → ℕ → CheckFault → Type 0
RefusesOneGroup image uuid number fault = NamesRule
    (λ block rule. (cause : OpenFault) × RefusesGroup number uuid (blocks_in FIRST_DATA_BLOCK (bytes_of_group image number)) cause
    × (told_of_open cause ≡ Foreign block rule))
    fault

abbrev pub RefusesFiles : List ℕ → List ℕ → CheckFault → Type 0
RefusesFiles image uuid fault = NamesRule (λ block rule. (file : ℕ) × BreaksFile image uuid file block rule) fault

abbrev pub RefusesGroups : List ℕ → List ℕ → CheckFault → Type 0
RefusesGroups image uuid fault = NamesRule (λ block rule. (number : ℕ) × BreaksGroup image uuid number block rule) fault
