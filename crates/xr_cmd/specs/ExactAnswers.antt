-- The status for an image that was read is the one that it has, unless the sink or the disk failed or there was no memory.
use Rattle.std.specs.Prelude.{◌≡◌, ◌⊎◌, ⊤, ℕ, List}
use Rattle.xr_base.specs.declared.address.Addr.{Addr}
use Rattle.xr_base.specs.declared.address.GroupNo.{GroupNo}
use Rattle.xr_check.specs.LoadRefusals.{BreaksFirst, IsDirtyImage, Layer}
use Rattle.xr_check.specs.Loading.{IsVerdictOn}
use Rattle.xr_check.specs.declared.fault.Broken.{Broken}
use Rattle.xr_check.specs.declared.verdict.TreeName.{TreeName}
use Rattle.xr_check.specs.declared.verdict.Verdict.TheVariants.{Differs, Sound}
use Rattle.xr_record.specs.declared.head.Lsn.{Lsn}
use Rattle.xr_cmd.specs.Answer.{code_of}
use Rattle.xr_cmd.specs.CommandLine.{IsCommand}
use Rattle.xr_cmd.specs.declared.command_line.Command.{Command}
use Rattle.xr_cmd.specs.declared.command_line.Command.TheVariants.{Check, Expect, Mkfs, Show, ShowLog}
use Rattle.xr_cmd.specs.declared.program.Status.{Status}
use Rattle.xr_cmd.specs.declared.program.Status.TheVariants as says

-- the words ask for a command that reads the trees of an image
abbrev pub ReadsTrees : Command → Type 0
ReadsTrees Expect = ⊥
ReadsTrees (Mkfs uuid) = ⊥
ReadsTrees Check = ⊤
ReadsTrees (Show part) = ⊤
ReadsTrees ShowLog = ⊥

abbrev pub AsksForTrees : List (List ℕ) → Type 0
AsksForTrees words = (command : Command) × IsCommand words command × ReadsTrees command

-- a status that tells nothing of the image, or this one
abbrev pub IsStatus : Status → ℕ → Type 0
IsStatus wanted status = ((status ≡ code_of says.Sink) ⊎ ((status ≡ code_of says.Disk) ⊎ (status ≡ code_of says.Memory))) ⊎ (status ≡ code_of wanted)

-- Of an image with a verdict `check` tells which, what reads trees tells of one in use that it is, and of any other that breaks a
-- rule that it isn't one of the program's.
pub record HasOwnStatus (words : List (List ℕ)) (image : List ℕ) (status : ℕ) : Type 0 where
  pub sound : IsCommand words Check → IsVerdictOn image Sound → IsStatus says.Done status
  pub differs : IsCommand words Check → (tree : TreeName) (group : GroupNo) (key : Addr) → IsVerdictOn image (Differs tree group key) → IsStatus says.Differs status
  pub dirty : AsksForTrees words → (lsn : Lsn) → IsDirtyImage image lsn → IsStatus says.Dirty status
  pub broken : AsksForTrees words → (layer : Layer) (block : ℕ) (rule : Broken) → BreaksFirst image layer block rule → IsStatus says.Foreign status
