-- The live stream of an image.
use Rattle.std.specs.Prelude.{◌≡◌, ℕ, Option, List, All, length}
use Rattle.xr_disk.specs.Seen.{WasSeen}
use Rattle.xr_record.specs.declared.head.Head.{Head}
use Rattle.xr_record.specs.declared.entry.Entry.{Entry}
use Rattle.xr_record.specs.Reading.{is_open}
use Rattle.xr_record.specs.Rules.{phase_of}
use Rattle.xr_commit.specs.declared.live_stream.Live.{Live}
use Rattle.xr_commit.specs.declared.layout.TheConstants.{LOG_BYTES}
use Rattle.xr_commit.specs.Chain.{IsLiveTrail, HasReserve}
use Rattle.xr_commit.specs.LogRecords.{HasSuper, IsHead, LogRecord, heads_of, log_of}
use Rattle.xr_commit.specs.Entries.{HasEntries}
use Rattle.xr_commit.specs.GoodItems.{EntriesAreGood}
use Rattle.xr_commit.specs.Operations.{KeepsUnmounts}

-- the log of some bytes holds these records, from the head's tail to the head, and these entries, both in log order
pub record IsLiveIn (uuid log : List ℕ) (heads : List Head) (entries : List Entry) : Type 0 where
  pub head : LogRecord
  pub newest : IsHead uuid log head
  pub records : List LogRecord
  pub chain : IsLiveTrail uuid log head records
  pub reserve : HasReserve head.head (heads_of records)
  pub unmounts : All KeepsUnmounts records
  pub heads_are : heads ≡ heads_of records
  pub entries_are : HasEntries records entries
  -- the last id of an intent, which is the greatest
  pub last : ℕ
  pub items : EntriesAreGood uuid 0 entries last

-- this is the live stream of the image
pub record IsLiveStream (image : List ℕ) (live : Live) : Type 0 where
  pub superblock : HasSuper image live.uuid
  pub live_in : IsLiveIn live.uuid (log_of image) live.heads.items live.entries.items

-- whether it ends within a transaction is told
abbrev pub EndsOpen : List ℕ → List ℕ → Live → Type 0
EndsOpen uuid log live = (live_in : IsLiveIn uuid log live.heads.items live.entries.items) → live.ends_open ≡ is_open (phase_of live_in.entries_are.o)

-- the bytes that were read as the image's log have this live stream, also where the disk doesn't tell the image
pub record WasReadLive (seen : Option (List ℕ)) (live : Live) : Type 0 where
  pub log : List ℕ
  pub long : length log ≡ LOG_BYTES
  pub live_in : IsLiveIn live.uuid log live.heads.items live.entries.items
  pub ends : EndsOpen live.uuid log live
  pub log_is : WasSeen seen (λ image. log ≡ log_of image)
