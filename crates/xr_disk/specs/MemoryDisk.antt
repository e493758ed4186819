-- What is known of a disk in memory.
use Rattle.std.specs.Prelude.{◌≡◌, ℕ, Option, List, []}
use Rattle.xr_disk.specs.declared.memory.MemDisk.{MemDisk}
use Rattle.xr_disk.specs.Disk.{DiskView}
use Rattle.xr_disk.specs.Events.{Event, events_of, view_of}

abbrev pub events_in : MemDisk → List Event
events_in d = events_of d.done.items d.bytes.items d.stop

abbrev pub disk_view : MemDisk → DiskView
disk_view d = view_of d.image.items d.first.items (events_in d) d.calls d.faults

-- no call was made yet, and which ones are to fail
pub record BeginsWith (image fails : List ℕ) (stop : Option ℕ) (room_calls room_bytes : ℕ) (disk : MemDisk) : Type 0 where
  pub image_is : disk.image.items ≡ image
  pub synced_is : disk.synced.items ≡ image
  pub first_is : disk.first.items ≡ image
  pub nothing_done : disk.done.items ≡ []
  pub nothing_written : disk.bytes.items ≡ []
  pub fails_are : disk.fails.items ≡ fails
  pub stop_is : disk.stop ≡ stop
  pub calls_are : disk.calls ≡ 0
  pub faults_are : disk.faults ≡ 0
  pub call_room : disk.room_calls ≡ room_calls
  pub byte_room : disk.room_bytes ≡ room_bytes

-- what a call leaves as it is: the image at the beginning, which calls fail, and the rooms
pub record KeepsPlan (old new : MemDisk) : Type 0 where
  pub first : new.first.items ≡ old.first.items
  pub fails : new.fails.items ≡ old.fails.items
  pub stop : new.stop ≡ old.stop
  pub call_room : new.room_calls ≡ old.room_calls
  pub byte_room : new.room_bytes ≡ old.room_bytes
