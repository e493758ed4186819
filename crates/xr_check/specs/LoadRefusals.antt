-- Why an image isn't loaded. A layer is looked at only where those before it are right: the superblock, the log, the files in rising
-- number, the groups in rising number. Whether the log ends with an unmount is asked before the log is.
use Rattle.std.specs.Prelude.{◌≡◌, ◌⊎◌, ⊤, ℕ, ◌<◌, List}
use Rattle.xr_base.specs.Cause.{Rose}
use Rattle.xr_base.specs.declared.geometry.TheConstants.{FILE_BLOCKS, FILES, FIRST_DATA_BLOCK, GROUPS}
use Rattle.xr_bmap.specs.OpenFile.{RefusesFile}
use Rattle.xr_check.specs.CleanImages.{HasCleanLog, HasFilesBelow, HasGroupsBelow, bytes_of_file, bytes_of_group}
use Rattle.xr_check.specs.declared.fault.Broken.{Broken}
use Rattle.xr_check.specs.declared.fault.Broken.TheVariants as broken
use Rattle.xr_check.specs.declared.fault.CheckFault.{CheckFault}
use Rattle.xr_check.specs.declared.fault.CheckFault.TheVariants.{Dirty, DiskFault, Foreign, NoMemory}
use Rattle.xr_commit.specs.LogEnds.{EndsWith}
use Rattle.xr_commit.specs.LogRecords.{HasSuper, log_of}
use Rattle.xr_commit.specs.Refusals.{HasNoSuper, RefusesLog}
use Rattle.xr_commit.specs.declared.fault.ScanFault.{ScanFault}
use Rattle.xr_commit.specs.declared.fault.ScanFault.TheVariants as of_scan
use Rattle.xr_commit.specs.declared.log_ends.LogEnd.TheVariants.{Empty, InUse, Unmounted}
use Rattle.xr_group.specs.OpenGroup.{RefusesGroup}
use Rattle.xr_open.specs.declared.fault.OpenFault.{OpenFault}
use Rattle.xr_open.specs.declared.fault.OpenFault.TheVariants as of_open
use Rattle.xr_pool.specs.Overlay.{blocks_in}
use Rattle.xr_record.specs.declared.head.Lsn.{Lsn}

-- what is told of a refusal of the superblock or the log, and of a file or a group
abbrev pub told_of_scan : ScanFault → CheckFault
told_of_scan (of_scan.Magic block) = Foreign block broken.Magic
told_of_scan (of_scan.Version block) = Foreign block broken.Version
told_of_scan (of_scan.Length block) = Foreign block broken.Length
told_of_scan (of_scan.Checksum block) = Foreign block broken.Checksum
told_of_scan (of_scan.Place block) = Foreign block broken.Place
told_of_scan (of_scan.Operation block) = Foreign block broken.Operation
told_of_scan (of_scan.ItemType block) = Foreign block broken.ItemType
told_of_scan (of_scan.Size block) = Foreign block broken.Size
told_of_scan (of_scan.Field block) = Foreign block broken.Field
told_of_scan (of_scan.Debt block) = Foreign block broken.Debt
told_of_scan (of_scan.Header block) = Foreign block broken.Header
told_of_scan (of_scan.DiskFault faults) = DiskFault faults
told_of_scan of_scan.NoMemory = NoMemory

abbrev pub told_of_open : OpenFault → CheckFault
told_of_open (of_open.Header fault) = Foreign fault.block broken.Header
told_of_open (of_open.Tree fault) = Foreign fault.block broken.Tree
told_of_open of_open.NoMemory = NoMemory

-- the log isn't in use: no record stands in it, or it ends with an unmount
abbrev pub IsUnused : List ℕ → List ℕ → Type 0
IsUnused uuid log = EndsWith uuid log Empty ⊎ EndsWith uuid log Unmounted

-- the newest record of the image's log, which has this LSN, is no unmount
pub record IsDirtyImage (image : List ℕ) (lsn : Lsn) : Type 0 where
  pub uuid : List ℕ
  pub superblock : HasSuper image uuid
  pub in_use : EndsWith uuid (log_of image) (InUse lsn)

-- a log that isn't in use breaks a rule
pub record BreaksLog (uuid log : List ℕ) (block : ℕ) (rule : Broken) : Type 0 where
  pub unused : IsUnused uuid log
  pub cause : ScanFault
  pub refused : RefusesLog uuid log cause
  pub told : told_of_scan cause ≡ Foreign block rule

-- a file breaks one, and a group, where those before it are right
pub record BreaksFile (image uuid : List ℕ) (file block : ℕ) (rule : Broken) : Type 0 where
  pub known : file < FILES
  pub before : HasFilesBelow image uuid file
  pub cause : OpenFault
  pub refused : RefusesFile file uuid (blocks_in FILE_BLOCKS (bytes_of_file image file)) cause
  pub told : told_of_open cause ≡ Foreign block rule

pub record BreaksGroup (image uuid : List ℕ) (number block : ℕ) (rule : Broken) : Type 0 where
  pub known : number < GROUPS
  pub before : HasGroupsBelow image uuid number
  pub cause : OpenFault
  pub refused : RefusesGroup number uuid (blocks_in FIRST_DATA_BLOCK (bytes_of_group image number)) cause
  pub told : told_of_open cause ≡ Foreign block rule

-- the layers of an image
pub data Layer : Type 0 where
  OfSuper : Layer
  OfLog : Layer
  OfFile : (file : ℕ) → Layer
  OfGroup : (number : ℕ) → Layer

-- this is the first layer that breaks a rule: the block where it does, and the rule
abbrev pub BreaksFirst : List ℕ → Layer → ℕ → Broken → Type 0
BreaksFirst image OfSuper block rule = HasNoSuper image × (block ≡ 0) × (rule ≡ broken.Header)
BreaksFirst image OfLog block rule = (uuid : List ℕ) × HasSuper image uuid × BreaksLog uuid (log_of image) block rule
BreaksFirst image (OfFile file) block rule = (uuid : List ℕ) × HasCleanLog image uuid × BreaksFile image uuid file block rule
BreaksFirst image (OfGroup number) block rule =
    (uuid : List ℕ) × HasCleanLog image uuid × HasFilesBelow image uuid FILES × BreaksGroup image uuid number block rule

-- what an image is refused for; want of memory and a fault of the disk are not the image's
abbrev pub RefusesLoad : List ℕ → CheckFault → Type 0
RefusesLoad image (Dirty lsn) = IsDirtyImage image lsn
RefusesLoad image (Foreign block rule) = (layer : Layer) × BreaksFirst image layer block rule
RefusesLoad image (DiskFault faults) = ⊤
RefusesLoad image NoMemory = ⊤

-- this is so of a refusal that is the image's
abbrev pub OfImage : (CheckFault → Type 0) → CheckFault → Type 0
OfImage P (DiskFault faults) = ⊤
OfImage P NoMemory = ⊤
OfImage P fault = P fault

-- a fault of the disk rose in this call, and is told with the disk's count
abbrev pub HasRisen : ℕ → ℕ → CheckFault → Type 0
HasRisen before after (DiskFault faults) = Rose before after × (faults ≡ after)
HasRisen before after (Dirty lsn) = ⊤
HasRisen before after (Foreign block rule) = ⊤
HasRisen before after NoMemory = ⊤
