-- What a commit needs and does.
use Rattle.std.specs.Prelude.{◌≡◌, ◌*◌, ℕ, List, length, Result, IfOk, OnErr, OnOk}
use Rattle.xr_disk.specs.Disk.{DiskView}
use Rattle.xr_items.specs.declared.trans.Placed.{Placed}
use Rattle.xr_items.specs.Transactions.{IsTrans, TransView}
use Rattle.xr_commit.specs.LoggedItems.{Logged}
use Rattle.xr_log.specs.declared.fault.LogFault.{LogFault}
use Rattle.xr_log.specs.declared.held.Held.{Held}
use Rattle.xr_log.specs.declared.packing.Fill.{Fill}
use Rattle.xr_log.specs.declared.transaction.Planned.{Planned}
use Rattle.xr_log.specs.Calls.{Commits, IsLogCall, IsUncommitted, MayCommit}
use Rattle.xr_log.specs.Filling.{FULL_SECTORS, fill_of, filled_by}
use Rattle.xr_log.specs.Held.{cycle_of, placings_of}
use Rattle.xr_log.specs.Histories.{AddsState, KeepsStates, LeavesStates}
use Rattle.xr_log.specs.TransactionItems.{logged_in, planned}

-- what a transaction logs, how it fills the log, and the sectors of the records that it fills
abbrev pub logged_by : Held → TransView → List Logged
logged_by log trans = logged_in trans.blocks (planned log.table.items log.next trans)

abbrev pub commit_fill : Held → TransView → Fill
commit_fill log trans = filled_by (logged_by log trans) (fill_of log)

abbrev pub commit_sectors : Held → TransView → ℕ
commit_sectors log trans = FULL_SECTORS * (commit_fill log trans).records

-- the plan of a transaction that may be committed
pub record IsPlan (log : Held) (trans : TransView) (plan : List Planned) : Type 0 where
  pub may : MayCommit log.uuid (placings_of log) trans
  pub valid : IsTrans trans
  pub plan_is : plan ≡ planned log.table.items log.next trans

-- After Ok the transaction is committed, in memory alone or on the disk too; else nothing is. A crash in the call leaves only
-- states from before it.
pub record IsCommitCall (disk disk' : DiskView) (old new : Held) (trans : TransView) (result : Result Placed LogFault) : Type 0 where
  pub committed : IfOk result (Commits trans old new)
  pub refused : OnErr result (IsUncommitted old new)
  pub any_moment : LeavesStates disk old disk' (cycle_of new) new.next
  pub added : OnOk result (AddsState disk old disk' new)
  pub kept : OnErr result (KeepsStates disk old disk' new)
  pub call : IsLogCall (commit_sectors old trans) (length trans.works) disk disk' old new result
