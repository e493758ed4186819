-- What a commit leaves, in each of its ways.
use Rattle.std.proofs.Common.{◌≡◌, ℕ, ◌+◌, ◌≤◌, ◌∙◌, false, List, [], ◌∷◌, ◌++◌, length, refl, sym, ap, subst, arith, inl, inr, Result, Ok, Err}
use Rattle.std.specs.Prelude.{None, Option, Some}
use Rattle.std.proofs.lemmas.List.Elements.{Contains-append_left}
use Rattle.xr_base.specs.declared.geometry.TheConstants.{CYCLES}
use Rattle.xr_disk.specs.Crash.{Crash}
use Rattle.xr_disk.specs.Disk.{DiskView}
use Rattle.xr_disk.specs.Runs.{leaves_more}
use Rattle.xr_items.specs.declared.layout.TheConstants.{IDS}
use Rattle.xr_items.specs.declared.trans.Logged.{Logged as Changed}
use Rattle.xr_items.specs.declared.trans.Placed.{Placed}
use Rattle.xr_items.specs.Transactions.{IsTrans, TransView}
use Rattle.xr_record.specs.Rules.{AtEntry}
use Rattle.xr_commit.specs.LoggedItems.{Logged}
use Rattle.xr_scan.specs.State.{State}
use Rattle.xr_log.specs.declared.fault.LogFault.{LogFault}
use Rattle.xr_log.specs.declared.fault.LogFault.TheVariants.{Down, Worn}
use Rattle.xr_log.specs.declared.held.Growing.{Growing}
use Rattle.xr_log.specs.declared.held.Held.{Held}
use Rattle.xr_log.specs.declared.held.Slotted.{Slotted}
use Rattle.xr_log.specs.declared.transaction.Planned.{Planned}
use Rattle.xr_log.specs.Calls.{HasLogCause, MayCommit, WearsOut}
use Rattle.xr_log.specs.CommitCalls.{IsCommitCall, commit_fill, commit_sectors, logged_by}
use Rattle.xr_log.specs.CommitSteps.{StepRuns}
use Rattle.xr_log.specs.Filling.{HasSpace}
use Rattle.xr_log.specs.Held.{HasCommitRoom, HasStates, current, cycle_of, placings_of}
use Rattle.xr_log.specs.Histories.{LeavesStates}
use Rattle.xr_log.specs.States.{LeavesWithin}
use Rattle.xr_log.specs.TransactionItems.{logged_in, planned}
use Rattle.xr_log.specs.TransactionPushes.{PushesTransaction}
use Rattle.xr_log.specs.Writing.{RunsOver}
use Rattle.xr_log.proofs.CommitPlanLemmas.{commit_has_space, ids_fit, plan_good, plan_names}
use Rattle.xr_log.proofs.EnteredLemmas.{IsEntered, begins_open, commits_entered, step_entered}
use Rattle.xr_log.proofs.ForceLemmas.{cause_of, down_keeps, fault_down, never_some, nothing_called, refused, unchanged}
use Rattle.xr_log.proofs.StateLemmas.{current_among, in_step_has, same_uncommitted}

-- what is known of a log that isn't down, once all but the push was tested
pub record MayPush (log : Held) (trans : TransView) : Type 0 where
  pub up : log.down ≡ None
  pub may : MayCommit log.uuid (placings_of log) trans
  pub valid : IsTrans trans
  pub whole : log.ends_open ≡ false
  pub fresh : WearsOut log (commit_sectors log trans) (length trans.works) → ⊥
  pub ids : log.next + length trans.works ≤ IDS
  pub limit : ℕ
  pub soon : limit ≤ cycle_of log + 1
  pub space : HasSpace limit log.growing.last (commit_fill log trans).records

pub may_push : (log : Held) (trans : TransView) → log.down ≡ None → MayCommit log.uuid (placings_of log) trans → IsTrans trans → HasCommitRoom log
    → (WearsOut log (commit_sectors log trans) (length trans.works) → ⊥) → (commit_fill log trans).records ≤ 12 → MayPush log trans
may_push log trans up may valid room fresh few =
    let space = commit_has_space log (commit_fill log trans).records few room.sectors (λ needs. fresh (inl needs)) in
    record {
      up = up;
      may = may;
      valid = valid;
      whole = room.whole;
      fresh = fresh;
      ids = ids_fit log (length trans.works) (λ wants. fresh (inr wants));
      limit = space.0;
      soon = space.1;
      space = space.2;
    }

-- what a call was given stands in memory, and what it pushed is the transaction
pub planned_as : (log : Held) (trans : TransView) (table : List Slotted) (given plan : List Planned) → table ≡ log.table.items → plan ≡ planned table log.next trans → given ≡ plan
    → given ≡ planned log.table.items log.next trans
planned_as log trans table given plan is are same = same ∙ are ∙ ap (λ (entries : List Slotted). planned entries log.next trans) is

pub logged_as : (log : Held) (trans : TransView) (blocks : List Changed) (plan : List Planned) → blocks ≡ trans.blocks → plan ≡ planned log.table.items log.next trans
    → logged_in blocks plan ≡ logged_by log trans
logged_as log trans blocks plan is are = ap (λ (bs : List Changed). logged_in bs plan) is ∙ ap (logged_in trans.blocks) are

pub pushed_as : (disk disk' : DiskView) (old mid : Held) (logged logged' : List Logged) (result : Result (Unit {0}) LogFault) → logged ≡ logged'
    → PushesTransaction disk disk' old mid logged result → PushesTransaction disk disk' old mid logged' result
pushed_as disk disk' old mid logged logged' result same = subst (λ (ls : List Logged). PushesTransaction disk disk' old mid ls result) same

-- nothing changed
commits_none : (disk : DiskView) (log : Held) (trans : TransView) (fault : LogFault)
    → HasLogCause (commit_sectors log trans) (length trans.works) disk.faults disk.faults log log fault
    → ((faults : ℕ) → log.down ≡ Some faults → ◌≡◌ {A = Result Placed LogFault} (Err fault) (Err (Down faults))) → IsCommitCall disk disk log log trans (Err fault)
commits_none disk log trans fault cause down = record {
  committed = tt;
  refused = same_uncommitted log log (unchanged log);
  any_moment = nothing_called disk log;
  added = tt;
  kept = λ states has. has;
  call = refused disk log (commit_sectors log trans) (length trans.works) fault cause down;
}

pub commits_worn : (disk : DiskView) (log : Held) (trans : TransView) → log.down ≡ None → WearsOut log (commit_sectors log trans) (length trans.works)
    → IsCommitCall disk disk log log trans (Err (Worn CYCLES))
commits_worn disk log trans up wears = commits_none disk log trans (Worn CYCLES) (refl, wears, up, refl) (λ faults is. never_some log up faults is)

pub commits_down : (disk : DiskView) (log : Held) (trans : TransView) (faults : ℕ) → log.down ≡ Some faults → IsCommitCall disk disk log log trans (Err (Down faults))
commits_down disk log trans faults is =
    commits_none disk log trans (Down faults) (is, refl) (λ n also. ap (λ (o : Option ℕ). Err (Down (value_or o))) (sym is ∙ also)) where
      value_or : Option ℕ → ℕ
      value_or None = 0
      value_or (Some n) = n

runs_pushed : (disk disk' : DiskView) (old mid : Held) (trans : TransView) → MayPush old trans → StepRuns disk old AtEntry disk' mid → (states : List State) → HasStates disk old states
    → RunsOver disk disk' states (cycle_of mid) old.next
runs_pushed disk disk' old mid trans p runs states has =
    let s = has.rest p.up in
    runs (current old) s.said old.next states (begins_open disk old states s p.whole (current_among disk old states has))

-- what is within some bounds is within later ones
widened : (cycle next cycle' next' : ℕ) → cycle ≤ cycle' → next ≤ next' → (c : Crash) → LeavesWithin cycle next c → LeavesWithin cycle' next' c
widened cycle next cycle' next' later more c left sound =
    let w = left sound in
    let cycles = w.cycles in
    let ids = w.ids in
    record { state = w.state; holds = w.holds; cycles = omega (arith, cycles, later); ids = omega (arith, ids, more) }

-- in the call a crash leaves only states from before it
moments : (disk disk' : DiskView) (old mid : Held) (trans : TransView) (cycle next : ℕ) → MayPush old trans → StepRuns disk old AtEntry disk' mid → cycle_of mid ≤ cycle → old.next ≤ next
    → LeavesStates disk old disk' cycle next
moments disk disk' old mid trans cycle next p runs later more = record {
  one = λ states has. (runs_pushed disk disk' old mid trans p runs states has).states_run.so_far;
  within = λ states has. leaves_more (runs_pushed disk disk' old mid trans p runs states has).bounds_run.so_far (widened (cycle_of mid) old.next cycle next later more);
}

pub commits_failed : (disk disk' : DiskView) (old mid : Held) (trans : TransView) (fault : LogFault) → MayPush old trans
    → PushesTransaction disk disk' old mid (logged_by old trans) (Err fault) → IsCommitCall disk disk' old mid trans (Err fault)
commits_failed disk disk' old mid trans fault p pushed =
    let step = pushed.step in
    let same = step.same in
    let next = same.next in
    let soon = p.soon in
    let limit = pushed.limit p.limit p.space in
    record {
      committed = tt;
      refused = same_uncommitted old mid same;
      any_moment = moments disk disk' old mid trans (cycle_of mid) mid.next p pushed.runs (omega arith) (omega (arith, next));
      added = tt;
      kept = λ states has. down_keeps disk disk' old mid states has same (runs_pushed disk disk' old mid trans p pushed.runs states has)
          (fault_down disk.faults disk'.faults mid fault step.fault);
      call = record {
        uuid = same.uuid;
        cycles = (step.cycle, omega (arith, limit, soon));
        next = (omega (arith, next), omega (arith, next));
        faults = step.faults;
        moment = step.moment;
        cause = cause_of (commit_sectors old trans) (length trans.works) disk disk' old mid fault p.up step.fault;
        fresh = tt;
        down = λ faults is. never_some old p.up faults is;
        up = tt;
      };
    }

pub commits_pushed : (disk disk' : DiskView) (old mid new : Held) (trans : TransView) (slots : Placed) → MayPush old trans
    → PushesTransaction disk disk' old mid (logged_by old trans) (Ok tt) → IsEntered trans old mid new slots → IsCommitCall disk disk' old new trans (Ok slots)
commits_pushed disk disk' old mid new trans slots p pushed e =
    let step = pushed.step in
    let next = e.next in
    let soon = p.soon in
    let few = p.valid.works_fit in
    let limit = pushed.limit p.limit p.space in
    let here : cycle_of new ≡ cycle_of mid = ap (λ (g : Growing). g.last.lsn.cycle) e.growing in
    let later = step.cycle in
    let names = plan_names old trans in
    record {
      committed = commits_entered trans old mid new slots e;
      refused = tt;
      any_moment = moments disk disk' old mid trans (cycle_of new) new.next p pushed.runs (omega (arith, here)) (omega (arith, next));
      added = λ states has.
          let s = has.rest p.up in
          let k = pushed.kept (current old) s.said old.next new.next states (begins_open disk old states s p.whole (current_among disk old states has))
          (plan_good old trans s.said.last p.valid p.may p.ids s.rises) (omega (arith, next)) (omega (arith, names, next)) in
          in_step_has disk' new (states ++ current new ∷ []) states refl
          (step_entered disk disk' trans old mid new slots states (states ++ current new ∷ []) k.0 s e p.valid p.may p.whole k.1
          (Contains-append_left states (current new ∷ []) k.1.durable k.1.among) pushed.some);
      kept = tt;
      call = record {
        uuid = e.uuid;
        cycles = (omega (arith, here, later), omega (arith, here, limit, soon));
        next = (omega (arith, next), omega (arith, next, few));
        faults = step.faults;
        moment = step.moment;
        cause = tt;
        fresh = p.fresh;
        down = λ faults is. never_some old p.up faults is;
        up = e.down ∙ step.up;
      };
    }
