-- What a disk in memory has done, and what follows from it. A list of events has the newest first.
use Rattle.std.specs.Prelude.{◌≡◌, ◌⊎◌, ℕ, ◌+◌, ◌*◌, ◌-◌, ◌^◌, ◌<◌, ◌≤◌, nat_le, Bool, true, false, not, ◌==◌, if◌then◌else◌, Option, Some, None, List, [], ◌∷◌, map, reverse, length, IsTrue, Contains, IsSomeAnd}
use Rattle.std.specs.List.{list_all}
use Rattle.xr_base.specs.declared.geometry.TheConstants.{SECTOR_BYTES, SECTORS}
use Rattle.xr_base.specs.Image.{part, overlaid}
use Rattle.xr_disk.specs.declared.call.Call.{Call}
use Rattle.xr_disk.specs.declared.call.Call.TheVariants.{Read, Write, Sync}
use Rattle.xr_disk.specs.declared.call.Fate.{Fate}
use Rattle.xr_disk.specs.declared.call.Fate.TheVariants.{Succeeds, Stops, Fails}
use Rattle.xr_disk.specs.Crash.{Crash, Torn, at_rest}
use Rattle.xr_disk.specs.Disk.{DiskView}

-- a call that is kept, with its number; a write with its place in bytes, and whether reads give what it wrote
pub data Event : Type 0 where
  HasRead : ℕ → Event
  HasWritten : ℕ → ℕ → List ℕ → Bool → Event
  HasSynced : ℕ → Event

abbrev pub call_number : Event → ℕ
call_number (HasRead n) = n
call_number (HasWritten n at bytes lands) = n
call_number (HasSynced n) = n

-- the number of the newest event
abbrev pub latest : List Event → ℕ
latest [] = 0
latest (e ∷ es) = call_number e

-- what reads give
abbrev pub reads_after : List ℕ → List Event → List ℕ
reads_after first [] = first
reads_after first (HasRead n ∷ es) = reads_after first es
reads_after first (HasWritten n at bytes lands ∷ es) = if lands then overlaid at bytes (reads_after first es) else reads_after first es
reads_after first (HasSynced n ∷ es) = reads_after first es

-- what the last sync covered
abbrev pub synced_after : List ℕ → List Event → List ℕ
synced_after first [] = first
synced_after first (HasRead n ∷ es) = synced_after first es
synced_after first (HasWritten n at bytes lands ∷ es) = synced_after first es
synced_after first (HasSynced n ∷ es) = reads_after first es

-- what a crash after these events may leave: each write since the last sync may be torn
abbrev pub MayLeave : List ℕ → List Event → Crash → Type 0
MayLeave first [] c = c ≡ at_rest first
MayLeave first (HasRead n ∷ es) c = MayLeave first es c
MayLeave first (HasWritten n at bytes lands ∷ es) c = (d : Crash) × MayLeave first es d × Torn at bytes d c
MayLeave first (HasSynced n ∷ es) c = c ≡ at_rest (reads_after first es)

-- what a crash at some moment from t on may have left: one now, or one before the newest event
abbrev pub LeftSince : List ℕ → List Event → ℕ → Crash → Type 0
LeftSince first [] t c = MayLeave first [] c
LeftSince first (e ∷ es) t c = MayLeave first (e ∷ es) c ⊎ ((t < call_number e) × LeftSince first es t c)

-- a write lies in the image
abbrev pub lies_within : Event → Bool
lies_within (HasRead n) = true
lies_within (HasWritten n at bytes lands) = nat_le (at + length bytes) (SECTOR_BYTES * SECTORS)
lies_within (HasSynced n) = true

-- the disk's power goes with the write of this number
abbrev pub stops_at : Option ℕ → ℕ → Bool
stops_at None n = false
stops_at (Some s) n = s == n

-- a kept call as an event; the bytes of all writes stand in one list
abbrev pub event_of : List ℕ → Option ℕ → Call → Event
event_of bytes stop (Read number at) = HasRead number
event_of bytes stop (Write number at «from» len) = HasWritten number (SECTOR_BYTES * at) (part «from» len bytes) (not (stops_at stop number))
event_of bytes stop (Sync number) = HasSynced number

abbrev pub events_of : List Call → List ℕ → Option ℕ → List Event
events_of done bytes stop = reverse (map (event_of bytes stop) done)

-- a write's bytes are there
abbrev pub has_bytes : ℕ → Call → Bool
has_bytes kept (Read number at) = true
has_bytes kept (Write number at «from» len) = nat_le («from» + len) kept
has_bytes kept (Sync number) = true

-- what is known of a disk in memory
abbrev pub view_of : List ℕ → List ℕ → List Event → ℕ → ℕ → DiskView
view_of image first events calls faults = record {
  seen = Some image;
  moment = calls;
  faults = faults;
  may_leave = MayLeave first events;
  left_since = LeftSince first events;
}

-- the images are those that follow from the first one by the events
pub record IsHistory (first image synced : List ℕ) (events : List Event) (calls : ℕ) : Type 0 where
  pub size : length first ≡ SECTOR_BYTES * SECTORS
  pub reads : image ≡ reads_after first events
  pub covered : synced ≡ synced_after first events
  pub numbered : latest events ≤ calls
  pub within : IsTrue (list_all lies_within events)

-- The next call fails: the clock has ended, the call is listed, the power goes with it or is gone, or it can't be kept.
abbrev pub DiskFailsNext : ℕ → List ℕ → Option ℕ → Type 0 → Type 0
DiskFailsNext calls fails stop Fits =
    (calls ≡ 2 ^ 64 - 1) ⊎ Contains fails (calls + 1) ⊎ IsSomeAnd stop (λ s. s ≤ calls + 1) ⊎ (¬ Fits)

-- The power goes with the next call, and the call can be kept.
pub record StopsNext (calls : ℕ) (stop : Option ℕ) (Fits : Type 0) : Type 0 where
  pub early : calls + 1 < 2 ^ 64
  pub last : stops_at stop (calls + 1) ≡ true
  pub fits : Fits

-- what becomes of the next call, where Fits says that it can be kept
abbrev pub IsFate : ℕ → List ℕ → Option ℕ → Type 0 → Fate → Type 0
IsFate calls fails stop Fits Succeeds = (¬ DiskFailsNext calls fails stop Fits) × Fits × (calls + 1 < 2 ^ 64) × (stops_at stop (calls + 1) ≡ false)
IsFate calls fails stop Fits Stops = DiskFailsNext calls fails stop Fits × Fits × (calls + 1 < 2 ^ 64) × (stops_at stop (calls + 1) ≡ true)
IsFate calls fails stop Fits Fails = DiskFailsNext calls fails stop Fits × (¬ StopsNext calls stop Fits)
