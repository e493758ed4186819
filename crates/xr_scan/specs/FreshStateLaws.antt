-- What a fresh image holds: its live stream is one unmount record, so its blocks are its own and nothing is pending.
use Rattle.std.specs.Prelude.{◌≡◌, ◌<◌, ℕ, List, [], ◌∷◌, length}
use Rattle.xr_base.specs.declared.geometry.TheConstants.{CYCLES, UUID_BYTES}
use Rattle.xr_headers.specs.declared.layout.TheConstants.{MISSING, UNMOUNT_BYTES}
use Rattle.xr_headers.specs.FreshImage.{fresh_block_of, fresh_image}
use Rattle.xr_record.specs.declared.entry.Entry.TheVariants.{Unmount}
use Rattle.xr_record.specs.declared.head.Head.{Head}
use Rattle.xr_commit.specs.LiveStream.{IsLiveIn}
use Rattle.xr_commit.specs.LogRecords.{log_of}
use Rattle.xr_commit.specs.LogEnds.{IsCleanRecord}
use Rattle.xr_scan.specs.State.{Holds, State}

-- the header of a fresh log's one record, which is its own tail and has none before it
abbrev pub unmount_head : List ℕ → ℕ → Head
unmount_head uuid cycle = record {
  lsn = record { cycle = cycle; sector = 0 };
  tail = record { cycle = cycle; sector = 0 };
  prev = MISSING;
  ops = 1;
  len = UNMOUNT_BYTES;
  uuid = uuid;
}

abbrev pub fresh_state : List ℕ → ℕ → State
fresh_state uuid cycle = record { uuid = uuid; blocks = fresh_block_of uuid cycle; works = [] }

abbrev pub FreshIsLive : Type 0
FreshIsLive = (uuid : List ℕ) (cycle : ℕ) → length uuid ≡ UUID_BYTES → 0 < cycle → cycle < CYCLES
    → (live : IsLiveIn uuid (log_of (fresh_image uuid cycle)) (unmount_head uuid cycle ∷ []) (Unmount ∷ [])) × IsCleanRecord live.head

abbrev pub FreshHoldsItsBlocks : Type 0
FreshHoldsItsBlocks = (uuid : List ℕ) (cycle : ℕ) → length uuid ≡ UUID_BYTES → 0 < cycle → cycle < CYCLES → Holds (fresh_image uuid cycle) (fresh_state uuid cycle)
