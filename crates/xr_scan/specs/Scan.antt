-- When a scan is refused.
use Rattle.std.specs.Prelude.{◌≡◌, ℕ, List}
use Rattle.xr_base.specs.declared.geometry.TheConstants.{FIRST_LOG_BLOCK}
use Rattle.xr_commit.specs.declared.fault.ScanFault.{ScanFault}
use Rattle.xr_commit.specs.declared.fault.ScanFault.TheVariants.{Debt}
use Rattle.xr_commit.specs.Refusals.{RefusesImage}
use Rattle.xr_scan.specs.declared.scanned.Scanned.{Scanned}
use Rattle.xr_scan.specs.Scanned.{HasTooMany, IsScanned}

-- the image has no live stream, for the cause that is named, or too many works are pending in it
abbrev pub PreventsScan : List ℕ → ScanFault → Type 0
PreventsScan image (Debt block) = HasTooMany image × (block ≡ FIRST_LOG_BLOCK)
PreventsScan image fault = RefusesImage image fault

abbrev pub IsNeverRefused : List ℕ → Type 0
IsNeverRefused image = (fault : ScanFault) → PreventsScan image fault → ⊥

abbrev pub IsNeverScanned : List ℕ → Type 0
IsNeverScanned image = (scanned : Scanned) → IsScanned image scanned → ⊥
