-- What is known of a disk: what it reads, what a crash may leave, and how often it failed.
use Rattle.std.specs.Prelude.{◌≡◌, ◌⊎◌, ℕ, ◌+◌, ◌-◌, ◌^◌, ◌≤◌, ◌↔◌, min, Option, Some, List, length, Result, IsErr}
use Rattle.xr_base.specs.Cause.{HasCause}
use Rattle.xr_base.specs.Image.{overlaid}
use Rattle.xr_disk.specs.Crash.{Crash, SameOutside, Torn, at_rest}
use Rattle.xr_disk.specs.Seen.{WasSeen}

-- The image that reads give, where the disk tells; the clock; the count of faults; what a crash now may leave; and
-- what a crash at some moment from a given one on may have left.
pub record DiskView : Type 1 where
  pub seen : Option (List ℕ)
  pub moment : ℕ
  pub faults : ℕ
  pub may_leave : Crash → Type 0
  pub left_since : ℕ → Crash → Type 0

-- A crash at any moment from the old disk to the new leaves what it might have left before, or what has P.
pub record LeavesOnly (old new : DiskView) (P : Crash → Type 0) : Type 0 where
  pub later : old.moment ≤ new.moment
  pub others : (t : ℕ) (c : Crash) → t ≤ old.moment → new.left_since t c → old.left_since t c ⊎ P c
  pub kept : (t : ℕ) (c : Crash) → t ≤ old.moment → old.left_since t c → new.left_since t c

-- the disk reads as the image, and a crash leaves it alone
pub record IsAtRest (image : List ℕ) (disk : DiskView) : Type 0 where
  pub seen : disk.seen ≡ Some image
  pub alone : (c : Crash) → disk.may_leave c → c ≡ at_rest image

-- both read the same, and a crash of both may leave the same
pub record IsSame (old new : DiskView) : Type 0 where
  pub seen : new.seen ≡ old.seen
  pub crash : (c : Crash) → new.may_leave c ↔ old.may_leave c

-- A call: the clock goes on by one, no crash but one of the new disk is added, and a fault is counted, but nothing
-- else. At the clock's end each call is a fault that changes nothing.
pub record IsCall {T E : Type 0} (old new : DiskView) (result : Result T E) : Type 0 where
  pub clock : new.moment ≡ min (old.moment + 1) (2 ^ 64 - 1)
  pub time : LeavesOnly old new new.may_leave
  pub cause : HasCause result old.faults new.faults
  pub ended : old.moment ≡ 2 ^ 64 - 1 → IsErr result × IsSame old new

-- where the disk tells what it reads, the bytes were laid over that
abbrev pub Overlays : ℕ → List ℕ → DiskView → DiskView → Type 0
Overlays at bytes old new = WasSeen old.seen (λ s. new.seen ≡ Some (overlaid at bytes s))

-- A write, whatever it answered: a crash leaves what it might have left before, or that with the write torn, and
-- reads outside its range are as before.
pub record MayTear (at : ℕ) (bytes : List ℕ) (old new : DiskView) : Type 0 where
  pub crash : (c : Crash) → new.may_leave c → old.may_leave c ⊎ ((d : Crash) × old.may_leave d × Torn at bytes d c)
  pub seen : (s : List ℕ) → old.seen ≡ Some s → (n : List ℕ) × (new.seen ≡ Some n) × SameOutside at (length bytes) s n

-- A sync that failed covers no more than before: a crash may leave what it might have left. What reads give may be
-- another of these images, but a disk that told it tells it still.
pub record CoversNoMore (old new : DiskView) : Type 0 where
  pub crash : (c : Crash) → new.may_leave c ↔ old.may_leave c
  pub seen : (s : List ℕ) → old.seen ≡ Some s → (n : List ℕ) × (new.seen ≡ Some n)

-- Calls that only read: both read the same, and no crash was added.
pub record OnlyReads (old new : DiskView) : Type 0 where
  pub same : IsSame old new
  pub time : LeavesOnly old new old.may_leave
