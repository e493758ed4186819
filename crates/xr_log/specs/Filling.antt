-- How many records are written for operations that are pushed one after another, and how long the body is that grows then.
use Rattle.std.specs.Prelude.{◌≡◌, ◌⊎◌, ℕ, ◌+◌, ◌*◌, ◌-◌, ◌<◌, ◌≤◌, nat_lt, if◌then◌else◌, List, [], ◌∷◌, length}
use Rattle.std.specs.List.{flat_map}
use Rattle.xr_base.specs.declared.geometry.TheConstants.{CYCLES, LOG_SECTORS}
use Rattle.xr_base.specs.declared.layout.TheConstants.{MAX_BODY_BYTES}
use Rattle.xr_record.specs.declared.head.Head.{Head}
use Rattle.xr_record.specs.declared.layout.TheConstants.{OPERATION_BYTES, TRANSACTION_HEADER_BYTES}
use Rattle.xr_commit.specs.LoggedItems.{Logged, logged_regions}
use Rattle.xr_commit.specs.LogRecords.{record_end}
use Rattle.xr_log.specs.declared.held.Held.{Held}
use Rattle.xr_log.specs.declared.layout.TheConstants.{GROWING_SECTORS}
use Rattle.xr_log.specs.declared.packing.Fill.{Fill}
use Rattle.xr_log.specs.Held.{cycle_of}
use Rattle.xr_log.specs.Positions.{LeavesSectors}

-- after the record is written where fewer than so many bytes are free
abbrev pub with_room : ℕ → Fill → Fill
with_room need f = if nat_lt MAX_BODY_BYTES (f.len + need) then (record { records = f.records + 1; len = 0 }) else f

-- after an operation that isn't cut
abbrev pub filled_whole : ℕ → Fill → Fill
filled_whole bytes f =
    let before = with_room (OPERATION_BYTES + bytes) f in record { records = before.records; len = before.len + (OPERATION_BYTES + bytes) }

-- after a region, which goes on in the next record where it doesn't fit
abbrev pub filled_end : Fill → ℕ → Fill
filled_end before end =
    if nat_lt MAX_BODY_BYTES end then (record { records = before.records + 1; len = OPERATION_BYTES + (end - MAX_BODY_BYTES) })
    else (record { records = before.records; len = end })

abbrev pub filled_region : ℕ → Fill → Fill
filled_region bytes f = let before = with_room (OPERATION_BYTES + 1) f in filled_end before (before.len + (OPERATION_BYTES + bytes))

abbrev pub filled_regions : List (List ℕ) → Fill → Fill
filled_regions [] f = f
filled_regions (region ∷ regions) f = filled_regions regions (filled_region (length region) f)

-- after a transaction that logs these items
abbrev pub filled_by : List Logged → Fill → Fill
filled_by logged f =
    filled_whole 0 (filled_regions (flat_map logged_regions logged) (filled_whole TRANSACTION_HEADER_BYTES (filled_whole 0 f)))

abbrev pub fill_of : Held → Fill
fill_of log = record { records = 0; len = length log.growing.packer.body }

-- the sectors of a full record
abbrev pub FULL_SECTORS : ℕ
FULL_SECTORS = 65

-- no commit writes more records
abbrev pub MOST_FULL : ℕ
MOST_FULL = 15

-- So many full records have room after this one, and then one that grows. None of them needs a later cycle than this, and
-- none the cycle that no record may have. At most once they pass the log's end, where 64 sectors may stay unused.
pub record HasSpaceBefore (limit : ℕ) (last : Head) (records : ℕ) : Type 0 where
  pub few : records ≤ MOST_FULL
  pub cycle : last.lsn.cycle < limit
  pub fresh : limit < CYCLES
  pub sectors : LeavesSectors (FULL_SECTORS * records + (FULL_SECTORS - 1) + GROWING_SECTORS) last

pub record HasSpaceAfter (limit : ℕ) (last : Head) (records : ℕ) : Type 0 where
  pub few : records ≤ MOST_FULL
  pub cycle : last.lsn.cycle ≤ limit
  pub fits : record_end last + FULL_SECTORS * records ≤ LOG_SECTORS
  pub sectors : LeavesSectors (FULL_SECTORS * records + GROWING_SECTORS) last

abbrev pub HasSpace : ℕ → Head → ℕ → Type 0
HasSpace limit last records = HasSpaceBefore limit last records ⊎ HasSpaceAfter limit last records

-- the log was filled so, and what had space has space for the others
pub record Fills (old new : Held) (f : Fill) : Type 0 where
  pub len : length new.growing.packer.body ≡ f.len
  pub space : (limit more : ℕ) → HasSpace limit old.growing.last (f.records + more) → HasSpace limit new.growing.last more

-- there is space for what fills the log so
abbrev pub HasSpaceFor : Held → Fill → Type 0
HasSpaceFor log f = (limit : ℕ) × HasSpace limit log.growing.last f.records

-- no record of the log has a later cycle than what had space so may have
abbrev pub KeepsLimit : Held → Held → Fill → Type 0
KeepsLimit old new f = (limit : ℕ) → HasSpace limit old.growing.last f.records → cycle_of new ≤ limit

-- one record is full, and so many bytes of a region go on in the next one
abbrev pub one_full : ℕ → Fill
one_full rest = record { records = 1; len = OPERATION_BYTES + rest }

abbrev pub front_fill : Held → Held → Fill
front_fill old new = record { records = (with_room 13 (fill_of old)).records; len = length new.growing.packer.body }

abbrev pub cut_fill : Held → ℕ → Fill
cut_fill old rest = record { records = (with_room 13 (fill_of old)).records + 1; len = OPERATION_BYTES + rest }

-- A region was pushed up to a place: all of it, or up to the record's end.
pub record FillsFront (old new : Held) (total stop : ℕ) : Type 0 where
  pub fills : Fills old new (front_fill old new)
  pub whole : stop ≡ total → front_fill old new ≡ filled_region total (fill_of old)
  pub full : stop < total → length new.growing.packer.body ≡ MAX_BODY_BYTES
  pub cut : stop < total → cut_fill old (total - stop) ≡ filled_region total (fill_of old)
