-- A scan of an image is refused in one way at most. It is readable, as for the refusals of a live stream.
use Rattle.std.specs.Prelude.{◌≡◌, ℕ, List}
use Rattle.xr_commit.specs.declared.fault.ScanFault.{ScanFault}
use Rattle.xr_commit.specs.Refusals.{IsReadable}
use Rattle.xr_scan.specs.Scan.{PreventsScan}

abbrev pub IsOneScanRefusal : Type 0
IsOneScanRefusal = (image : List ℕ) (one two : ScanFault) → IsReadable image → PreventsScan image one → PreventsScan image two → one ≡ two
