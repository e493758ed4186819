-- A log that goes on from what a scan found, and what is left where one ends.
use Rattle.std.specs.Prelude.{◌≡◌, ℕ, suc, ◌+◌, ◌≤◌, List, [], ◌∷◌, None}
use Rattle.xr_disk.specs.Disk.{DiskView, IsAtRest}
use Rattle.xr_items.specs.declared.work.Work.{Work}
use Rattle.xr_commit.specs.declared.pending.Pending.{Pending}
use Rattle.xr_scan.specs.declared.scanned.Scanned.{Scanned}
use Rattle.xr_scan.specs.LoggedEntries.{logged_items}
use Rattle.xr_scan.specs.NextId.{next_id}
use Rattle.xr_commit.specs.LogEnds.{IsCleanRecord}
use Rattle.xr_scan.specs.Scanned.{scanned_state}
use Rattle.xr_scan.specs.State.{Holds, works_of}
use Rattle.xr_log.specs.declared.held.Held.{Held}
use Rattle.xr_log.specs.declared.held.Slotted.{Slotted}
use Rattle.xr_log.specs.declared.layout.TheConstants.{CYCLES_A_CALL, IDS_A_CALL}
use Rattle.xr_log.specs.Gathered.{nothing_packed}
use Rattle.xr_log.specs.Held.{current, cycle_of, is_untouched, placings_of}
use Rattle.xr_log.specs.States.{Placing}

-- works in the slots from a number on
abbrev pub slotted_from : ℕ → List Work → List Placing
slotted_from n [] = []
slotted_from n (work ∷ works) = record { slot = n; work = work } ∷ slotted_from (suc n) works

abbrev pub slotted_in : ℕ → List Pending → List Slotted
slotted_in n [] = []
slotted_in n (p ∷ ps) = record { id = p.id; slot = n; work = p.work } ∷ slotted_in (suc n) ps

pub record Resumes (scanned : Scanned) (log : Held) : Type 0 where
  pub state : current log ≡ scanned_state scanned
  pub placings : placings_of log ≡ slotted_from 0 (works_of scanned.pending.items)
  pub cycle : cycle_of log ≡ scanned.head.cycle
  pub next : log.next ≡ scanned.next
  pub untouched : is_untouched log ≡ scanned.clean
  pub up : log.down ≡ None

-- the same by the fields of both
pub record IsResumed (scanned : Scanned) (log : Held) : Type 0 where
  pub uuid : log.uuid ≡ scanned.uuid
  pub blocks : log.blocks ≡ scanned.blocks
  pub dirty : log.dirty ≡ scanned.dirty
  pub table : log.table.items ≡ slotted_in 0 scanned.pending.items
  pub next : log.next ≡ scanned.next
  pub ends_open : log.ends_open ≡ scanned.ends_open
  pub last : log.growing.last ≡ scanned.last
  pub anew : log.growing.anew ≡ scanned.clean
  pub packer : log.growing.packer ≡ nothing_packed
  pub up : log.down ≡ None

-- the disk is at rest, its image holds the log's state, and the log has gone on by no more than a call may
pub record IsLeft (disk : DiskView) (log : Held) : Type 0 where
  pub image : List ℕ
  pub rest : IsAtRest image disk
  pub holds : Holds image (current log)
  pub cycle : holds.live_in.head.head.lsn.cycle ≤ cycle_of log + CYCLES_A_CALL
  pub next : next_id (logged_items holds.logged) ≤ log.next + IDS_A_CALL

-- and its newest record is an unmount
pub record IsClosed (disk : DiskView) (log : Held) : Type 0 where
  pub left : IsLeft disk log
  pub clean : IsCleanRecord left.holds.live_in.head
