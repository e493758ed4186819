-- An image with a live stream is not refused, and any other is refused in one way at most. A log that is read is bytes: of numbers
-- that are none, a checksum wouldn't fit its field.
use Rattle.std.specs.Prelude.{◌≡◌, ℕ, List}
use Rattle.xr_base.specs.Fields.{AreBytes}
use Rattle.xr_record.specs.declared.entry.Entry.{Entry}
use Rattle.xr_record.specs.declared.head.Head.{Head}
use Rattle.xr_commit.specs.declared.fault.ScanFault.{ScanFault}
use Rattle.xr_commit.specs.LiveStream.{IsLiveIn}
use Rattle.xr_commit.specs.LogRecords.{HasSuper, log_of}
use Rattle.xr_commit.specs.Refusals.{IsReadable, RefusesImage}

abbrev pub LiveIsTaken : Type 0
LiveIsTaken = (image uuid : List ℕ) (heads : List Head) (entries : List Entry) (fault : ScanFault) → AreBytes (log_of image) → HasSuper image uuid
    → IsLiveIn uuid (log_of image) heads entries → RefusesImage image fault → ⊥

abbrev pub IsOneRefusal : Type 0
IsOneRefusal = (image : List ℕ) (one two : ScanFault) → IsReadable image → RefusesImage image one → RefusesImage image two → one ≡ two
