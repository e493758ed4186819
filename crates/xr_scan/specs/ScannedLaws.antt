-- What was found of an image is what it holds, and no image is both scanned and refused.
use Rattle.std.specs.Prelude.{ℕ, ◌<◌, List, length}
use Rattle.xr_scan.specs.Scanned.{HasTooMany, IsScanned, scanned_state}
use Rattle.std.proofs.Common.{ap}
use Rattle.xr_scan.specs.State.{Holds, State, works_of}
use Rattle.xr_scan.specs.declared.layout.TheConstants.{MOST_PENDING}
use Rattle.xr_scan.specs.declared.scanned.Scanned.{Scanned}

abbrev pub ScannedHolds : Type 0
ScannedHolds = (image : List ℕ) (scanned : Scanned) → IsScanned image scanned → Holds image (scanned_state scanned)

abbrev pub ScannedHasFew : Type 0
ScannedHasFew = (image : List ℕ) (scanned : Scanned) → IsScanned image scanned → HasTooMany image → ⊥

-- and where it is refused for that, so many works are in the state that the image holds
abbrev pub TooManyAreHeld : Type 0
TooManyAreHeld = (image : List ℕ) (state : State) → Holds image state → HasTooMany image → MOST_PENDING < length state.works

abbrev pub scanned_holds : (image : List ℕ) (scanned : Scanned) → IsScanned image scanned → Holds image (scanned_state scanned)
scanned_holds image scanned is = record {
  superblock = is.superblock;
  heads = is.heads;
  entries = is.entries;
  live_in = is.live_in;
  logged = is.logged;
  log_all = is.log_all;
  blocks = is.blocks;
  works = ap works_of is.pending_are;
}
