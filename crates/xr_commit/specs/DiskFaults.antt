-- What a call over a disk learned from it.
use Rattle.std.specs.Prelude.{◌≡◌, ℕ}
use Rattle.xr_base.specs.Cause.{Rose}
use Rattle.xr_commit.specs.declared.fault.ScanFault.{ScanFault}
use Rattle.xr_commit.specs.declared.fault.ScanFault.TheVariants.{DiskFault}

-- A fault of the disk rose in this call, and is told with the disk's count. The other refusals are not the disk's.
abbrev pub WasCounted : ℕ → ℕ → ScanFault → Type 0
WasCounted before after (DiskFault faults) = Rose before after × (faults ≡ after)
WasCounted before after fault = Unit {0}
