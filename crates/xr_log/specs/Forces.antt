-- What a force does, and what is left where a log is left.
use Rattle.std.specs.Prelude.{◌≡◌, ◌+◌, ℕ, true, List, length, Result, Err, OnErr, OnOk}
use Rattle.xr_disk.specs.Crash.{Crash}
use Rattle.xr_disk.specs.Disk.{DiskView, IsAtRest}
use Rattle.xr_scan.specs.State.{State}
use Rattle.xr_log.specs.declared.fault.LogFault.{LogFault}
use Rattle.xr_log.specs.declared.fault.LogFault.TheVariants.{Worn}
use Rattle.xr_log.specs.declared.held.Held.{Held}
use Rattle.xr_log.specs.declared.layout.TheConstants.{CYCLES_A_CALL}
use Rattle.xr_log.specs.Calls.{IsEndCall, IsLogCall, IsUncommitted}
use Rattle.xr_log.specs.Held.{HasStates, cycle_of, is_untouched}
use Rattle.xr_log.specs.Histories.{KeepsLast, KeepsStates, LeavesStates}
use Rattle.xr_log.specs.Positions.{packed_sectors}
use Rattle.xr_log.specs.Resumes.{IsClosed, IsLeft}
use Rattle.xr_log.specs.States.{LeavesOneOf}

-- nothing was committed since a record was written
abbrev pub HasNothingPacked : Held → Type 0
HasNothingPacked log = length log.growing.packer.body ≡ 0

-- After Ok a crash leaves the current state alone, else those as before. Nothing is committed.
pub record Forces (disk disk' : DiskView) (old new : Held) (result : Result (Unit {0}) LogFault) : Type 0 where
  pub same : IsUncommitted old new
  pub any_moment : LeavesStates disk old disk' (cycle_of new) new.next
  pub covered : OnOk result (KeepsLast disk old disk' new)
  pub kept : OnErr result (KeepsStates disk old disk' new)
  pub gives_no_ids : new.next ≡ old.next
  pub call : IsLogCall (packed_sectors old.growing.packer) 0 disk disk' old new result

-- After Ok the image is at rest with the current state, and it is clean where the log was untouched. After an error a crash
-- leaves one of the states; a worn log's disk is at rest.
pub record Leaves (disk disk' : DiskView) (log : Held) (result : Result (Unit {0}) LogFault) : Type 0 where
  pub any_moment : LeavesStates disk log disk' (cycle_of log + CYCLES_A_CALL) log.next
  pub left : OnOk result ((states : List State) → HasStates disk log states → IsLeft disk' log)
  pub clean : OnOk result (is_untouched log ≡ true → (states : List State) → HasStates disk log states → IsClosed disk' log)
  pub failed : OnErr result ((states : List State) → HasStates disk log states → (c : Crash) → disk'.may_leave c → LeavesOneOf states c)
  pub worn : (cycle : ℕ) → result ≡ Err (Worn cycle) → (states : List State) → HasStates disk log states → (image : List ℕ) × IsAtRest image disk'
  pub call : IsEndCall (packed_sectors log.growing.packer) 0 disk disk' log result
