-- When a call of a disk in memory fails, and what each outcome leaves.
use Rattle.std.specs.Prelude.{◌≡◌, ℕ, ◌+◌, ◌<◌, ◌≤◌, List, [], ◌∷◌, ◌++◌, length, vec_len}
use Rattle.xr_disk.specs.declared.call.Call.{Call}
use Rattle.xr_disk.specs.declared.call.Call.TheVariants.{Write}
use Rattle.xr_disk.specs.declared.memory.MemDisk.{MemDisk}
use Rattle.xr_disk.specs.Events.{DiskFailsNext, StopsNext}
use Rattle.xr_disk.specs.Plan.{next_count}

-- there is room to keep one more call, and one more write of so many bytes
abbrev pub HasCallRoom : MemDisk → Type 0
HasCallRoom disk = vec_len disk.done < disk.room_calls

abbrev pub HasWriteRoom : MemDisk → ℕ → Type 0
HasWriteRoom disk n = HasCallRoom disk × (vec_len disk.bytes + n ≤ disk.room_bytes)

-- the next call fails, or is the write with which the power goes, where Fits says that it can be kept
abbrev pub NextCallFails : MemDisk → Type 0 → Type 0
NextCallFails disk Fits = DiskFailsNext disk.calls disk.fails.items disk.stop Fits

abbrev pub NextWriteStops : MemDisk → ℕ → Type 0
NextWriteStops disk n = StopsNext disk.calls disk.stop (HasWriteRoom disk n)

-- one more call is kept, after those before it
abbrev pub AddsCall : MemDisk → MemDisk → Call → Type 0
AddsCall old new call = new.done.items ≡ old.done.items ++ call ∷ []

-- what reads give, what the last sync covered, and the bytes of writes are as before
pub record KeepsContents (old new : MemDisk) : Type 0 where
  pub image : new.image.items ≡ old.image.items
  pub synced : new.synced.items ≡ old.synced.items
  pub bytes : new.bytes.items ≡ old.bytes.items

-- one more write is kept with its bytes, and no more is covered than before
pub record AddsWrite (old new : MemDisk) (at : ℕ) (written : List ℕ) : Type 0 where
  pub call : AddsCall old new (Write (old.calls + 1) at (vec_len old.bytes) (length written))
  pub bytes : new.bytes.items ≡ old.bytes.items ++ written
  pub synced : new.synced.items ≡ old.synced.items

-- a fault that changes nothing but the clock and the count
pub record ChangesOnlyCounts (old new : MemDisk) : Type 0 where
  pub contents : KeepsContents old new
  pub done : new.done.items ≡ old.done.items
  pub clock : new.calls ≡ next_count old.calls
  pub counted : new.faults ≡ next_count old.faults
