-- How what crashes leave of a log goes on over its calls.
use Rattle.std.specs.Prelude.{◌≡◌, ℕ, ◌≤◌, List, [], ◌∷◌, ◌++◌, Contains}
use Rattle.xr_disk.specs.Crash.{Crash}
use Rattle.xr_disk.specs.Disk.{DiskView, LeavesOnly}
use Rattle.xr_scan.specs.State.{State}
use Rattle.xr_log.specs.declared.held.Held.{Held}
use Rattle.xr_log.specs.Held.{HasStates, current}
use Rattle.xr_log.specs.States.{LeavesOneOf, LeavesWithin}

-- in a call a crash leaves only states from before it, and no cycle and no id that the log hasn't come to
pub record LeavesStates (old : DiskView) (log : Held) (new : DiskView) (cycle next : ℕ) : Type 0 where
  pub one : (states : List State) → HasStates old log states → LeavesOnly old new (LeavesOneOf states)
  pub within : (states : List State) → HasStates old log states → LeavesOnly old new (LeavesWithin cycle next)

-- the states after a call that commits, after one that doesn't, and after one that forces
abbrev pub AddsState : DiskView → Held → DiskView → Held → Type 0
AddsState old log new log' = (states : List State) → HasStates old log states → HasStates new log' (states ++ current log' ∷ [])

abbrev pub KeepsStates : DiskView → Held → DiskView → Held → Type 0
KeepsStates old log new log' = (states : List State) → HasStates old log states → HasStates new log' states

abbrev pub KeepsLast : DiskView → Held → DiskView → Held → Type 0
KeepsLast old log new log' = (states : List State) → HasStates old log states → HasStates new log' (current log' ∷ [])

-- the states of one list are among those of another
abbrev pub AreAmong : List State → List State → Type 0
AreAmong some all = (state : State) → Contains some state → Contains all state

-- From the entry on a crash has left one of these states, and those that it may leave now are the last of them.
pub record IsLogHistory (entry disk : DiskView) (log : Held) (all : List State) : Type 0 where
  pub so_far : LeavesOnly entry disk (LeavesOneOf all)
  pub older : List State
  pub states : List State
  pub all_are : all ≡ older ++ states
  pub now : HasStates disk log states

-- since a moment a crash has left one of these states
pub record CoversSince (moment : ℕ) (disk : DiskView) (states : List State) : Type 0 where
  pub earlier : moment ≤ disk.moment
  pub since : (c : Crash) → disk.left_since moment c → LeavesOneOf states c
