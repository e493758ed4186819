-- What each step of a commit keeps.
use Rattle.std.specs.Prelude.{◌≡◌, ℕ, ◌≤◌, true, List, length, Contains}
use Rattle.std.specs.List.{AllByRecursion, flat_map}
use Rattle.xr_disk.specs.Disk.{DiskView}
use Rattle.xr_record.specs.Rules.{AtRegion, Phase, phase_of}
use Rattle.xr_record.specs.Stream.{Open, Written, are_items}
use Rattle.xr_commit.specs.GoodItems.{ItemsAreGood}
use Rattle.xr_commit.specs.LoggedItems.{Logged, logged_regions}
use Rattle.xr_scan.specs.LoggedEntries.{IsWholeItem, logged_items}
use Rattle.xr_scan.specs.NextId.{next_id}
use Rattle.xr_scan.specs.State.{State}
use Rattle.xr_log.specs.declared.held.Held.{Held}
use Rattle.xr_log.specs.Gathered.{Said}
use Rattle.xr_log.specs.Held.{cycle_of}
use Rattle.xr_log.specs.KeepsNow.{KeepsNow}
use Rattle.xr_log.specs.Pushes.{opened, said_after, state_with}
use Rattle.xr_log.specs.Writing.{OnlyPacks, RunsOver}

-- The log keeps the state and what whole transactions say, and what stands open behind them is seen so by the rules.
pub record KeepsOpen (disk : DiskView) (log : Held) (now : State) (said : Said) (next : ℕ) (states : List State) (phase : Phase) : Type 0 where
  pub o : Open
  pub phase_is : phase_of o ≡ phase
  pub keeps : KeepsNow disk log.growing now (opened said o) next states
  pub among : Contains states now
  pub own : now.uuid ≡ log.uuid

-- a step from what is open so: whatever it answers, and where it answers Ok
abbrev pub StepRuns : DiskView → Held → Phase → DiskView → Held → Type 0
StepRuns old log phase new log' = (now : State) (said : Said) (next : ℕ) (states : List State) → KeepsOpen old log now said next states phase
    → RunsOver old new states (cycle_of log') next

abbrev pub StepKeeps : DiskView → Held → Phase → DiskView → Held → Phase → Type 0
StepKeeps old log phase new log' phase' = (now : State) (said : Said) (next : ℕ) (states : List State) → KeepsOpen old log now said next states phase
    → KeepsOpen new log' now said next states phase'

-- the record that grows has only another body, and all else is as before
pub record OnlyPushes (old new : Held) : Type 0 where
  pub same : OnlyPacks old new
  pub last : new.growing.last ≡ old.growing.last
  pub anew : new.growing.anew ≡ old.growing.anew
  pub down : new.down ≡ old.down

-- the last operation after the regions of these items: the state after them is what the stream says then
abbrev pub StepCommits : DiskView → Held → ℕ → DiskView → Held → Type 0
StepCommits old log tid new log' = (now : State) (said : Said) (next next' : ℕ) (states : List State) (logged : List Logged)
    → KeepsOpen old log now said next states (AtRegion tid (length (flat_map logged_regions logged)) (flat_map logged_regions logged))
    → are_items (flat_map logged_regions logged) ≡ true → ItemsAreGood now.uuid said.last logged → AllByRecursion IsWholeItem logged → next ≤ next'
    → next_id (logged_items logged) ≤ next'
    → (t : Written) × KeepsNow new log'.growing (state_with now said.logged logged) (said_after said t logged) next' states
