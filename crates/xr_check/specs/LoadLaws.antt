-- What an image is refused for is exact: a clean image isn't refused, and any other is at one layer alone, by its log in one way. A
-- log that is read is bytes. An image has one verdict.
use Rattle.std.specs.Prelude.{◌≡◌, ℕ, List}
use Rattle.xr_check.specs.CleanImages.{IsCleanImage}
use Rattle.xr_check.specs.LoadRefusals.{BreaksFirst, IsDirtyImage, Layer, OfImage, RefusesLoad}
use Rattle.xr_check.specs.LoadRefusals.Layer.{OfLog}
use Rattle.xr_check.specs.Loading.{IsVerdictOn}
use Rattle.xr_check.specs.declared.fault.Broken.{Broken}
use Rattle.xr_check.specs.declared.fault.CheckFault.{CheckFault}
use Rattle.xr_check.specs.declared.verdict.Verdict.{Verdict}
use Rattle.xr_commit.specs.Refusals.{IsReadable}
use Rattle.xr_record.specs.declared.head.Lsn.{Lsn}

abbrev pub CleanIsTaken : Type 0
CleanIsTaken = (image uuid : List ℕ) (fault : CheckFault) → IsReadable image → IsCleanImage image uuid → RefusesLoad image fault → OfImage (λ _. ⊥) fault

-- a log in use is told by its newest record, and nothing else is then told of the image
abbrev pub DirtyIsOne : Type 0
DirtyIsOne = (image : List ℕ) (lsn other : Lsn) → IsDirtyImage image lsn → IsDirtyImage image other → lsn ≡ other

abbrev pub DirtyIsAlone : Type 0
DirtyIsAlone = (image : List ℕ) (lsn : Lsn) (layer : Layer) (block : ℕ) (rule : Broken) → IsDirtyImage image lsn → BreaksFirst image layer block rule → ⊥

-- one layer is the first that breaks a rule, and of a log the block and the rule are told
abbrev pub LayerIsOne : Type 0
LayerIsOne = (image : List ℕ) (layer other : Layer) (block place : ℕ) (rule another : Broken) → IsReadable image → BreaksFirst image layer block rule
    → BreaksFirst image other place another → layer ≡ other

abbrev pub LogRefusalIsOne : Type 0
LogRefusalIsOne = (image : List ℕ) (block place : ℕ) (rule another : Broken) → IsReadable image → BreaksFirst image OfLog block rule
    → BreaksFirst image OfLog place another → (block ≡ place) × (rule ≡ another)

abbrev pub VerdictIsOne : Type 0
VerdictIsOne = (image : List ℕ) (verdict other : Verdict) → IsVerdictOn image verdict → IsVerdictOn image other → verdict ≡ other
