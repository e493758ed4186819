-- What a log that isn't down keeps between its steps: the image on the disk, with the record that grows, says the state now.
use Rattle.std.specs.Prelude.{◌≡◌, ℕ, ◌*◌, ◌≤◌, Bool, List, length, Contains}
use Rattle.xr_base.specs.declared.geometry.TheConstants.{SECTOR_BYTES, SECTORS}
use Rattle.xr_disk.specs.Disk.{DiskView, IsAtRest}
use Rattle.xr_record.specs.declared.head.Head.{Head}
use Rattle.xr_record.specs.Packing.{Packed}
use Rattle.xr_scan.specs.LoggedEntries.{logged_items}
use Rattle.xr_scan.specs.NextId.{next_id}
use Rattle.xr_scan.specs.State.{Holds, State}
use Rattle.xr_log.specs.declared.held.Growing.{Growing}
use Rattle.xr_log.specs.Gathered.{HasGathered, Said, needed}

-- The disk is at rest. Its image holds one of the states, its newest record has this header, and with the packed operations
-- it says this and the state now. No item names an id that is still to be given.
pub record KeepsUnder (disk : DiskView) (last : Head) (anew : Bool) (packed : Packed) (now : State) (said : Said) (next : ℕ) (states : List State) : Type 0 where
  pub image : List ℕ
  pub rest : IsAtRest image disk
  pub long : length image ≡ SECTOR_BYTES * SECTORS
  pub durable : State
  pub among : Contains states durable
  pub holds : Holds image durable
  pub last_is : holds.live_in.head.head ≡ last
  pub gathered : HasGathered image durable holds (needed anew holds.live_in.records) packed now said
  pub durable_ids : next_id (logged_items holds.logged) ≤ next
  pub ids : next_id (logged_items said.logged) ≤ next

abbrev pub KeepsNow : DiskView → Growing → State → Said → ℕ → List State → Type 0
KeepsNow disk growing now said next states = KeepsUnder disk growing.last growing.anew growing.packer now said next states
