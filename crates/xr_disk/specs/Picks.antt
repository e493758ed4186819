-- What a crash makes of each write that no sync has covered, where it is picked by hand.
use Rattle.std.specs.Prelude.{◌≡◌, ◌⊎◌, ℕ, ◌+◌, ◌*◌, ◌/◌, ◌≤◌, List, [], ◌∷◌, ◌++◌, length, take, get_or}
use Rattle.std.specs.List.{AllByRecursion}
use Rattle.xr_base.specs.declared.geometry.TheConstants.{SECTOR_BYTES}
use Rattle.xr_base.specs.Image.{overlaid, part}
use Rattle.xr_disk.specs.Crash.{Write as InFlight}
use Rattle.xr_disk.specs.Events.{Event, HasRead, HasSynced, HasWritten, MayLeave, reads_after}
use Rattle.xr_disk.specs.declared.call.Call.{Call}
use Rattle.xr_disk.specs.declared.call.Call.TheVariants.{Read, Sync, Write}
use Rattle.xr_disk.specs.declared.picks.Pick.{Pick}
use Rattle.xr_disk.specs.declared.picks.Pick.TheVariants.{Half, New, Old}

-- the first half of the sectors of some bytes, rounded down
abbrev pub half_of : List ℕ → List ℕ
half_of bytes = take (SECTOR_BYTES * (length bytes / SECTOR_BYTES / 2)) bytes

-- an image with what is picked of a write
abbrev pub with_pick : Pick → ℕ → List ℕ → List ℕ → List ℕ
with_pick New at bytes image = overlaid at bytes image
with_pick Half at bytes image = overlaid at (half_of bytes) image
with_pick Old at bytes image = image

-- how many writes no sync has covered
abbrev pub uncovered : List Event → ℕ
uncovered [] = 0
uncovered (HasRead n ∷ es) = uncovered es
uncovered (HasWritten n at bytes lands ∷ es) = uncovered es + 1
uncovered (HasSynced n ∷ es) = 0

-- the image with each of them as it is picked, the oldest first: a write without a pick is done
abbrev pub picked : List ℕ → List Event → List Pick → List ℕ
picked first [] picks = first
picked first (HasRead n ∷ es) picks = picked first es picks
picked first (HasWritten n at bytes lands ∷ es) picks = with_pick (get_or picks (uncovered es) New) at bytes (picked first es picks)
picked first (HasSynced n ∷ es) picks = reads_after first es

-- a crash may leave this image, with some writes in flight
abbrev pub MayLeaveImage : List ℕ → List Event → List ℕ → Type 0
MayLeaveImage first events image = (writes : List InFlight) × MayLeave first events (record { image = image; in_flight = writes })

-- The rest is of no public contract: the calls of a disk in the order in which they were made.
abbrev pub IsNoSync : Call → Type 0
IsNoSync (Read number at) = Unit {0}
IsNoSync (Write number at «from» len) = Unit {0}
IsNoSync (Sync number) = ⊥

-- the first n of the calls end in the last sync; or there is none, and n is zero
pub record AreCovered (calls : List Call) (n : ℕ) : Type 0 where
  pub front : List Call
  pub back : List Call
  pub calls_are : calls ≡ front ++ back
  pub long : length front ≡ n
  pub ends : (front ≡ []) ⊎ ((before : List Call) × (number : ℕ) × (front ≡ before ++ Sync number ∷ []))
  pub bare : AllByRecursion IsNoSync back

-- the image after these calls, of which the first write has the pick with number n
abbrev pub laid : List ℕ → List Pick → List Call → ℕ → List ℕ → List ℕ
laid bytes picks [] n image = image
laid bytes picks (Read number at ∷ calls) n image = laid bytes picks calls n image
laid bytes picks (Write number at «from» len ∷ calls) n image =
    laid bytes picks calls (n + 1) (with_pick (get_or picks n New) (SECTOR_BYTES * at) (part «from» len bytes) image)
laid bytes picks (Sync number ∷ calls) n image = laid bytes picks calls n image

-- a write's bytes are there, and its place is in the image
abbrev pub FitsIn : ℕ → ℕ → Call → Type 0
FitsIn kept size (Read number at) = Unit {0}
FitsIn kept size (Write number at «from» len) = («from» + len ≤ kept) × (SECTOR_BYTES * at + len ≤ size)
FitsIn kept size (Sync number) = Unit {0}
