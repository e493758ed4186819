-- What pushing a part of a transaction does, and what pushing all of it does.
use Rattle.std.specs.Prelude.{◌==◌, ℕ, ◌<◌, ◌≤◌, if◌then◌else◌, List, [], ◌∷◌, ◌++◌, length, Result, OnOk}
use Rattle.std.specs.List.{flat_map}
use Rattle.xr_disk.specs.Disk.{DiskView}
use Rattle.xr_items.specs.Items.{following}
use Rattle.xr_record.specs.Rules.{AtEntry, AtRegion, Phase}
use Rattle.xr_record.specs.Stream.{Written}
use Rattle.xr_commit.specs.GoodItems.{ItemsAreGood}
use Rattle.xr_commit.specs.LoggedItems.{Logged, logged_regions}
use Rattle.xr_scan.specs.LoggedEntries.{logged_items}
use Rattle.xr_scan.specs.NextId.{next_id}
use Rattle.xr_scan.specs.State.{State}
use Rattle.xr_log.specs.declared.fault.LogFault.{LogFault}
use Rattle.xr_log.specs.declared.held.Held.{Held}
use Rattle.xr_log.specs.declared.packing.Fill.{Fill}
use Rattle.xr_log.specs.CommitSteps.{KeepsOpen, StepKeeps, StepRuns}
use Rattle.xr_log.specs.Filling.{Fills, KeepsLimit, fill_of, filled_by, filled_regions}
use Rattle.xr_log.specs.Gathered.{Said}
use Rattle.xr_log.specs.KeepsNow.{KeepsNow}
use Rattle.xr_log.specs.Pushes.{said_after, state_with}
use Rattle.xr_log.specs.Writing.{IsStep}

-- Operations are pushed that fill the log so, and by the rules of a stream go from one phase to another. Until then a crash
-- leaves what it left before.
pub record IsPush (disk disk' : DiskView) (old new : Held) (phase phase' : Phase) (f : Fill) (result : Result (Unit {0}) LogFault) : Type 0 where
  pub runs : StepRuns disk old phase disk' new
  pub kept : OnOk result (StepKeeps disk old phase disk' new phase')
  pub fills : OnOk result (Fills old new f)
  pub limit : KeepsLimit old new f
  pub step : IsStep disk disk' old new result

abbrev pub PushesRegions : DiskView → DiskView → Held → Held → ℕ → List (List ℕ) → Result (Unit {0}) LogFault → Type 0
PushesRegions disk disk' old new tid pushed result = (count : ℕ) (regions : List (List ℕ))
    → IsPush disk disk' old new (AtRegion tid count regions) (AtRegion tid count (regions ++ pushed)) (filled_regions pushed (fill_of old)) result

-- the same of all regions of these items
abbrev pub PushesItems : DiskView → DiskView → Held → Held → ℕ → List Logged → Result (Unit {0}) LogFault → Type 0
PushesItems disk disk' old new tid logged result = PushesRegions disk disk' old new tid (flat_map logged_regions logged) result

-- the region that follows the first one of an item, where one does
abbrev pub region_after : Logged → List (List ℕ)
region_after l = if following l.item == 0 then [] else (l.bytes ∷ [])

-- A transaction of these items is the next one: the state after them is what the stream says then.
abbrev pub StepLogs : DiskView → Held → List Logged → DiskView → Held → Type 0
StepLogs old log logged new log' = (now : State) (said : Said) (next next' : ℕ) (states : List State) → KeepsOpen old log now said next states AtEntry
    → ItemsAreGood now.uuid said.last logged → next ≤ next' → next_id (logged_items logged) ≤ next'
    → (t : Written) × KeepsNow new log'.growing (state_with now said.logged logged) (said_after said t logged) next' states

-- All of it is pushed. A crash until then leaves what it left before, and the last operation isn't written yet.
pub record PushesTransaction (disk disk' : DiskView) (old new : Held) (logged : List Logged) (result : Result (Unit {0}) LogFault) : Type 0 where
  pub runs : StepRuns disk old AtEntry disk' new
  pub kept : OnOk result (StepLogs disk old logged disk' new)
  pub fills : OnOk result (Fills old new (filled_by logged (fill_of old)))
  pub some : OnOk result (0 < length new.growing.packer.body)
  pub limit : KeepsLimit old new (filled_by logged (fill_of old))
  pub step : IsStep disk disk' old new result
