-- What a force leaves, in each of its ways.
use Rattle.std.proofs.Common.{◌≡◌, ℕ, ◌+◌, ◌<◌, ◌≤◌, ◌∙◌, Bool, false, List, [], ◌∷◌, ◌++◌, length, refl, sym, ap, subst, arith, inl, inr, Result, Ok, Err}
use Rattle.std.specs.Prelude.{Contains, Option, None, Some, OnErr, OnOk, IfErr, get_or, ◌&&◌, ◌==◌, if◌then◌else◌}
use Rattle.std.specs.Global.{Vec}
use Rattle.std.proofs.lemmas.Bool.{false≢true}
use Rattle.xr_base.specs.declared.geometry.TheConstants.{CYCLES, LOG_SECTORS}
use Rattle.xr_disk.specs.Crash.{Crash}
use Rattle.xr_disk.specs.Disk.{DiskView, LeavesOnly}
use Rattle.xr_disk.specs.Runs.{nothing_left}
use Rattle.xr_record.specs.Record.{sectors_of}
use Rattle.xr_scan.specs.Scanned.{copy_number}
use Rattle.xr_scan.specs.State.{State}
use Rattle.xr_commit.specs.LogRecords.{record_end}
use Rattle.xr_log.specs.declared.fault.LogFault.{LogFault}
use Rattle.xr_log.specs.declared.fault.LogFault.TheVariants.{DiskFault, Down, Worn}
use Rattle.xr_log.specs.declared.held.Held.{Held}
use Rattle.xr_log.specs.declared.held.Slotted.{Slotted}
use Rattle.xr_log.specs.Slots.{pending_in}
use Rattle.xr_log.specs.Calls.{HasLogCause, IsLogCall, NeedsLastCycle, WearsOut}
use Rattle.xr_log.specs.Forces.{Forces}
use Rattle.xr_log.specs.Gathered.{Said}
use Rattle.xr_log.specs.Held.{HasStates, IsInStep, current, cycle_of}
use Rattle.xr_log.specs.HistoryLaws.{in_step_with}
use Rattle.xr_log.specs.Histories.{KeepsLast, KeepsStates, LeavesStates}
use Rattle.xr_log.specs.KeepsNow.{KeepsNow}
use Rattle.xr_log.specs.Positions.{packed_sectors}
use Rattle.xr_log.specs.States.{LeavesOneOf, LeavesWithin}
use Rattle.xr_log.specs.Writing.{IsDiskFault, IsPlacedAfter, IsStep, OnlyPacks, RunsOver}
use Rattle.xr_log.proofs.StateLemmas.{current_among, in_step_has, only_in, same_current, same_uncommitted}

-- no call was made, and nothing changed
pub nothing_called : (disk : DiskView) (log : Held) → LeavesStates disk log disk (cycle_of log) log.next
nothing_called disk log = record {
  one = λ states has. nothing_left disk (LeavesOneOf states);
  within = λ states has. nothing_left disk (LeavesWithin (cycle_of log) log.next);
}

pub unchanged : (log : Held) → OnlyPacks log log
unchanged log = record { uuid = refl; blocks = refl; dirty = refl; table = refl; next = refl; tid = refl; ends_open = refl }

pub refused : {T : Type 0} (disk : DiskView) (log : Held) (sectors ids : ℕ) (fault : LogFault) → HasLogCause sectors ids disk.faults disk.faults log log fault
    → ((faults : ℕ) → log.down ≡ Some faults → ◌≡◌ {A = Result T LogFault} (Err fault) (Err (Down faults))) → IsLogCall {T = T} sectors ids disk disk log log (Err fault)
refused disk log sectors ids fault cause down = record {
  uuid = refl;
  cycles = (omega arith, omega arith);
  next = (omega arith, omega arith);
  faults = omega arith;
  moment = omega arith;
  cause = cause;
  fresh = tt;
  down = down;
  up = tt;
}

pub never_some : (log : Held) {T : Type 0} → log.down ≡ None → (faults : ℕ) → log.down ≡ Some faults → T
never_some log none faults some = absurd (none_some (sym none ∙ some)) where
  is_none : Option ℕ → Type 0
  is_none None = Unit {0}
  is_none (Some n) = ⊥

  none_some : {n : ℕ} → None ≡ Some n → ⊥
  none_some same = subst is_none same tt

-- a log that isn't worn out by nothing
none_wear : (log : Held) → record_end log.growing.last ≤ LOG_SECTORS → length log.growing.packer.body ≡ 0 → WearsOut log (packed_sectors log.growing.packer) 0 → ⊥
none_wear log within none wears = elim wears [
  | inl needs ↦ (let e = ap (λ (n : ℕ). if n == 0 then 0 else (1 + sectors_of n)) none in let h = needs.1 in omega (arith, e, h, within))
  | inr ids ↦ (let h = ids.0 in omega (arith, h))
]

pub forces_nothing : (disk : DiskView) (log : Held) → log.down ≡ None → length log.growing.packer.body ≡ 0 → record_end log.growing.last ≤ LOG_SECTORS
    → Forces disk disk log log (Ok tt)
forces_nothing disk log up none within = record {
  same = same_uncommitted log log (unchanged log);
  any_moment = nothing_called disk log;
  gives_no_ids = refl;
  covered = λ states has.
      let s = has.rest up in
      in_step_has disk log (current log ∷ []) [] refl (in_step_with disk log states (current log ∷ []) s (0, omega arith, sym (s.written none)));
  kept = tt;
  call = record {
    uuid = refl;
    cycles = (omega arith, omega arith);
    next = (omega arith, omega arith);
    faults = omega arith;
    moment = omega arith;
    cause = tt;
    fresh = none_wear log within none;
    down = λ faults is. never_some log up faults is;
    up = up;
  };
}

pub forces_worn : (disk : DiskView) (log : Held) → log.down ≡ None → NeedsLastCycle log.growing.last (packed_sectors log.growing.packer)
    → Forces disk disk log log (Err (Worn CYCLES))
forces_worn disk log up needs = record {
  same = same_uncommitted log log (unchanged log);
  any_moment = nothing_called disk log;
  gives_no_ids = refl;
  covered = tt;
  kept = λ states has. has;
  call = refused disk log (packed_sectors log.growing.packer) 0 (Worn CYCLES) (refl, inl needs, up, refl) (λ faults is. never_some log up faults is);
}

-- the log is in step with what was written
step_written : (disk' : DiskView) (old new : Held) (states : List State) (disk : DiskView) → (s : IsInStep disk old states) → OnlyPacks old new
    → KeepsNow disk' new.growing (current old) s.said old.next (current old ∷ []) → new.growing.anew ≡ false → IsInStep disk' new (current new ∷ [])
step_written disk' old new states disk s same k goes =
    let now : current new ≡ current old = same_current old new same in
    let keeps : KeepsNow disk' new.growing (current new) s.said new.next (current new ∷ []) =
    subst (λ (n : ℕ). KeepsNow disk' new.growing (current new) s.said n (current new ∷ [])) (sym same.next)
    (subst (λ (st : State). KeepsNow disk' new.growing st s.said old.next (st ∷ [])) (sym now) k) in
    record {
      said = s.said;
      keeps = keeps;
      ends = (λ ends. s.ends.0 (sym same.ends_open ∙ ends), λ within. same.ends_open ∙ s.ends.1 within);
      rises = subst (λ (n : ℕ). s.said.last < n) (sym same.next) s.rises;
      pending_are = ap (λ (table : Vec Slotted). pending_in table.items) same.table ∙ s.pending_are;
      dirty = λ block has. ap (λ (marks : Vec Bool). get_or marks.items (copy_number block) false) same.dirty ∙ s.dirty block has;
      clean = λ untouched. absurd (false≢true (sym (ap (λ (b : Bool). b && (length new.growing.packer.body == 0)) goes) ∙ untouched));
      written = λ none. sym (only_in (current new) keeps.durable keeps.among);
    }

-- what the write of the packed record gives
pub record WritesPacked (disk disk' : DiskView) (old new : Held) (result : Result (Unit {0}) LogFault) : Type 0 where
  pub up : old.down ≡ None
  pub fresh : NeedsLastCycle old.growing.last (packed_sectors old.growing.packer) → ⊥
  pub runs : (now : State) (said : Said) (next : ℕ) (states : List State) → KeepsNow disk old.growing now said next states → now.uuid ≡ old.uuid
      → Contains states now → RunsOver disk disk' states (cycle_of new) next
  pub kept : OnOk result ((now : State) (said : Said) (next : ℕ) (states : List State) → KeepsNow disk old.growing now said next states → now.uuid ≡ old.uuid
      → KeepsNow disk' new.growing now said next (now ∷ []))
  pub place : IsPlacedAfter old.growing.last new.growing.last (length old.growing.packer.body)
  pub goes_on : new.growing.anew ≡ false
  pub step : IsStep disk disk' old new result

runs_of : (disk disk' : DiskView) (old new : Held) (result : Result (Unit {0}) LogFault) → WritesPacked disk disk' old new result → (states : List State)
    → HasStates disk old states → RunsOver disk disk' states (cycle_of new) old.next
runs_of disk disk' old new result w states has =
    let s = has.rest w.up in w.runs (current old) s.said old.next states s.keeps refl (current_among disk old states has)

covers : (disk disk' : DiskView) (old new : Held) (result : Result (Unit {0}) LogFault) → WritesPacked disk disk' old new result → OnOk result (KeepsLast disk old disk' new)
covers disk disk' old new (Ok x) w = λ states has.
    let s = has.rest w.up in
    in_step_has disk' new (current new ∷ []) [] refl
    (step_written disk' old new states disk s w.step.same (w.kept (current old) s.said old.next states s.keeps refl) w.goes_on)
covers disk disk' old new (Err e) w = tt

pub fault_down : (before after : ℕ) (new : Held) (fault : LogFault) → IsDiskFault before after new fault → (faults : ℕ) × (new.down ≡ Some faults)
fault_down before after new (DiskFault n) is = (n, is.2)
fault_down before after new (Worn n) is = absurd is
fault_down before after new (Down n) is = absurd is

-- a log that is down keeps the states that a crash may leave
pub down_keeps : (disk disk' : DiskView) (old new : Held) (states : List State) → HasStates disk old states → OnlyPacks old new
    → RunsOver disk disk' states (cycle_of new) old.next → (faults : ℕ) × (new.down ≡ Some faults) → HasStates disk' new states
down_keeps disk disk' old new states has same r down = record {
  older = has.older;
  ends = has.ends ∙ ap (λ (st : State). has.older ++ st ∷ []) (sym (same_current old new same));
  now = r.states_run.now;
  within = subst (λ (n : ℕ). (c : Crash) → disk'.may_leave c → LeavesWithin (cycle_of new) n c) (sym same.next) r.bounds_run.now;
  image = r.image;
  told = r.told;
  rest = λ up. never_some new up down.0 down.1;
}

keeps : (disk disk' : DiskView) (old new : Held) (result : Result (Unit {0}) LogFault) → WritesPacked disk disk' old new result → OnErr result (KeepsStates disk old disk' new)
keeps disk disk' old new (Ok x) w = tt
keeps disk disk' old new (Err e) w = λ states has.
    down_keeps disk disk' old new states has w.step.same (runs_of disk disk' old new (Err e) w states has) (fault_down disk.faults disk'.faults new e w.step.fault)

pub cause_of : (sectors ids : ℕ) (disk disk' : DiskView) (old new : Held) (fault : LogFault) → old.down ≡ None → IsDiskFault disk.faults disk'.faults new fault
    → HasLogCause sectors ids disk.faults disk'.faults old new fault
cause_of sectors ids disk disk' old new (DiskFault n) up is = (up, is.0, is.1, is.2)
cause_of sectors ids disk disk' old new (Worn n) up is = absurd is
cause_of sectors ids disk disk' old new (Down n) up is = absurd is

causes : (sectors : ℕ) (disk disk' : DiskView) (old new : Held) (result : Result (Unit {0}) LogFault) → old.down ≡ None
    → IfErr result (IsDiskFault disk.faults disk'.faults new) → IfErr result (HasLogCause sectors 0 disk.faults disk'.faults old new)
causes sectors disk disk' old new (Ok x) up is = tt
causes sectors disk disk' old new (Err e) up is = cause_of sectors 0 disk disk' old new e up is

on_ok : {T : Type 0} (result : Result (Unit {0}) LogFault) → T → OnOk result T
on_ok (Ok x) holds = holds
on_ok (Err e) holds = tt

pub forces_written : (disk disk' : DiskView) (old new : Held) (result : Result (Unit {0}) LogFault) → WritesPacked disk disk' old new result → Forces disk disk' old new result
forces_written disk disk' old new result w =
    let sectors : ℕ = packed_sectors old.growing.packer in
    let same = w.step.same in
    let later = w.step.cycle in
    let once : cycle_of new ≤ cycle_of old + 1 = elim w.place.place [ inl (fits, cycle, sector) ↦ omega (arith, cycle) | inr (full, cycle, sector) ↦ omega (arith, cycle) ] in
    let next = same.next in
    record {
      same = same_uncommitted old new same;
      any_moment = record {
        one = λ states has. (runs_of disk disk' old new result w states has).states_run.so_far;
        within = λ states has. subst (λ (n : ℕ). LeavesOnly disk disk' (LeavesWithin (cycle_of new) n)) (sym next) (runs_of disk disk' old new result w states has).bounds_run.so_far;
      };
      gives_no_ids = same.next;
      covered = covers disk disk' old new result w;
      kept = keeps disk disk' old new result w;
      call = record {
        uuid = same.uuid;
        cycles = (later, once);
        next = (omega (arith, next), omega (arith, next));
        faults = w.step.faults;
        moment = w.step.moment;
        cause = causes sectors disk disk' old new result w.up w.step.fault;
        fresh = on_ok result (λ wears. elim wears [ inl needs ↦ w.fresh needs | inr ids ↦ (let h = ids.0 in omega (arith, h)) ]);
        down = λ faults is. never_some old w.up faults is;
        up = w.step.up;
      };
    }
