-- Why a command has nothing to print but a line that says so, and which reasons each command has.
use Rattle.std.specs.Prelude.{◌≡◌, ℕ, List, Option, IfSome}
use Rattle.xr_base.specs.Cause.{Rose}
use Rattle.xr_disk.specs.Disk.{DiskView}
use Rattle.xr_check.specs.LoadRefusals.{BreaksFirst, IsDirtyImage, Layer, told_of_scan}
use Rattle.xr_check.specs.Loading.{IsVerdictOn}
use Rattle.xr_check.specs.declared.fault.Broken.{Broken}
use Rattle.xr_check.specs.declared.fault.CheckFault.{CheckFault}
use Rattle.xr_check.specs.declared.fault.CheckFault.TheVariants as check
use Rattle.xr_check.specs.declared.verdict.Verdict.TheVariants as verdict
use Rattle.xr_commit.specs.declared.fault.ScanFault.{ScanFault}
use Rattle.xr_commit.specs.Refusals.{IsReadable, RefusesImage}
use Rattle.xr_cmd.specs.declared.failure.Failure.{Failure}
use Rattle.xr_cmd.specs.declared.failure.Failure.TheVariants.{BadLine, DiskFailed, Differs, Dirty, Foreign, NoMemory, SourceFailed}
use Rattle.xr_cmd.specs.declared.script.ScriptFault.{ScriptFault}
use Rattle.xr_cmd.specs.declared.script.ScriptFault.TheVariants as script
use Rattle.xr_cmd.specs.declared.streams.ReadFault.{ReadFault}
use Rattle.xr_cmd.specs.declared.streams.ReadFault.TheVariants as read
use Rattle.xr_cmd.specs.declared.command_line.Command.{Command}
use Rattle.xr_cmd.specs.declared.command_line.Command.TheVariants.{Check, Expect, Mkfs, Show, ShowLog}
use Rattle.xr_disk.specs.Seen.{WasSeen}
use Rattle.xr_cmd.specs.Script.{IsFirstBadLine}

-- the bytes are all that was left, where the source tells
abbrev pub WasLeft : Option (List ℕ) → List ℕ → Type 0
WasLeft left script = IfSome left (λ all. all ≡ script)

-- the script was left, and its first bad line has this number
pub record HasBadLine (left : Option (List ℕ)) (number : ℕ) : Type 0 where
  pub script : List ℕ
  pub was_left : WasLeft left script
  pub first : IsFirstBadLine script number

-- Why `expect` has no text, by the count of the source's faults before and after: a line is bad and the source didn't
-- fail, or it did. Want of memory needs no cause.
abbrev pub ExpectFails : Option (List ℕ) → ℕ → ℕ → Failure → Type 0
ExpectFails left before after (BadLine number) = HasBadLine left number × (after ≡ before)
ExpectFails left before after SourceFailed = Rose before after
ExpectFails left before after DiskFailed = ⊥
ExpectFails left before after (Differs _ _ _) = ⊥
ExpectFails left before after (Dirty lsn) = ⊥
ExpectFails left before after (Foreign block rule) = ⊥
ExpectFails left before after NoMemory = Unit {0}

-- why `mkfs` has none, where AtDisk says that the disk failed
abbrev pub MkfsFails : Type 0 → Failure → Type 0
MkfsFails AtDisk (BadLine number) = ⊥
MkfsFails AtDisk SourceFailed = ⊥
MkfsFails AtDisk DiskFailed = AtDisk
MkfsFails AtDisk (Differs _ _ _) = ⊥
MkfsFails AtDisk (Dirty lsn) = ⊥
MkfsFails AtDisk (Foreign block rule) = ⊥
MkfsFails AtDisk NoMemory = Unit {0}

-- the image is readable, so that a clean one isn't refused, and this is so of it
pub record IsSoOfImage (P : List ℕ → Type 0) (seen : Option (List ℕ)) : Type 0 where
  pub readable : WasSeen seen IsReadable
  pub refused : WasSeen seen P

-- why a part of an image isn't shown: the image is in use, or this is the first layer that breaks a rule
abbrev pub ShowFails : Option (List ℕ) → Type 0 → Failure → Type 0
ShowFails seen AtDisk (BadLine number) = ⊥
ShowFails seen AtDisk SourceFailed = ⊥
ShowFails seen AtDisk DiskFailed = AtDisk
ShowFails seen AtDisk (Differs _ _ _) = ⊥
ShowFails seen AtDisk (Dirty lsn) = IsSoOfImage (λ image. IsDirtyImage image lsn) seen
ShowFails seen AtDisk (Foreign block rule) = IsSoOfImage (λ image. (layer : Layer) × BreaksFirst image layer block rule) seen
ShowFails seen AtDisk NoMemory = Unit {0}

-- why an image isn't called sound: for the same, or since this is its verdict
abbrev pub CheckFails : Option (List ℕ) → Type 0 → Failure → Type 0
CheckFails seen AtDisk (Differs name group key) = IsSoOfImage (λ image. IsVerdictOn image (verdict.Differs name group key)) seen
CheckFails seen AtDisk (BadLine number) = ⊥
CheckFails seen AtDisk SourceFailed = ⊥
CheckFails seen AtDisk DiskFailed = AtDisk
CheckFails seen AtDisk (Dirty lsn) = IsSoOfImage (λ image. IsDirtyImage image lsn) seen
CheckFails seen AtDisk (Foreign block rule) = IsSoOfImage (λ image. (layer : Layer) × BreaksFirst image layer block rule) seen
CheckFails seen AtDisk NoMemory = Unit {0}

-- a refusal of the image's log, told by its block and the number of its rule
pub record RefusesLive (block : ℕ) (rule : Broken) (image : List ℕ) : Type 0 where
  pub cause : ScanFault
  pub refuses : RefusesImage image cause
  pub told : told_of_scan cause ≡ check.Foreign block rule

-- why a log isn't shown; such an image has no other refusal, since it has no superblock or its log is bytes
abbrev pub ShowLogFails : Option (List ℕ) → Type 0 → Failure → Type 0
ShowLogFails seen AtDisk (BadLine number) = ⊥
ShowLogFails seen AtDisk SourceFailed = ⊥
ShowLogFails seen AtDisk DiskFailed = AtDisk
ShowLogFails seen AtDisk (Differs _ _ _) = ⊥
ShowLogFails seen AtDisk (Dirty lsn) = ⊥
ShowLogFails seen AtDisk (Foreign block rule) = IsSoOfImage (RefusesLive block rule) seen
ShowLogFails seen AtDisk NoMemory = Unit {0}

-- why a command has none
abbrev pub HasFailure : Option (List ℕ) → ℕ → ℕ → DiskView → DiskView → Command → Failure → Type 0
HasFailure left before after old new Expect failure = ExpectFails left before after failure
HasFailure left before after old new (Mkfs uuid) failure = MkfsFails (Rose old.faults new.faults) failure
HasFailure left before after old new Check failure = CheckFails old.seen (Rose old.faults new.faults) failure
HasFailure left before after old new (Show part) failure = ShowFails old.seen (Rose old.faults new.faults) failure
HasFailure left before after old new ShowLog failure = ShowLogFails old.seen (Rose old.faults new.faults) failure

-- a fault of reading or of parsing, as the reason
abbrev pub failure_of_read : ReadFault → Failure
failure_of_read read.Source = SourceFailed
failure_of_read read.NoMemory = NoMemory

abbrev pub failure_of_script : ScriptFault → Failure
failure_of_script (script.Line number) = BadLine number
failure_of_script script.NoMemory = NoMemory

-- a fault of reading an image
abbrev pub failure_of_check : CheckFault → Failure
failure_of_check (check.Dirty lsn) = Dirty lsn
failure_of_check (check.Foreign block rule) = Foreign block rule
failure_of_check (check.DiskFault faults) = DiskFailed
failure_of_check check.NoMemory = NoMemory
