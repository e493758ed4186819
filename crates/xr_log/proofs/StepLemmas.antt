-- How steps of a commit follow each other.
use Rattle.std.proofs.Common.{◌≡◌, ℕ, zero, suc, ◌+◌, ◌≤◌, List, [], ◌∷◌, length, sym, ap, subst, ◌∙◌, arith}
use Rattle.std.specs.Prelude.{Contains, Result, Ok, Err, IfErr}
use Rattle.xr_disk.specs.Crash.{Crash}
use Rattle.xr_disk.specs.Disk.{DiskView}
use Rattle.xr_disk.specs.Runs.{Runs, and_then, begin, leaves_more}
use Rattle.xr_record.specs.declared.head.Head.{Head}
use Rattle.xr_record.specs.Rules.{Phase}
use Rattle.xr_scan.specs.State.{State}
use Rattle.xr_log.specs.declared.fault.LogFault.{LogFault}
use Rattle.xr_log.specs.declared.fault.LogFault.TheVariants.{DiskFault, Down, Worn}
use Rattle.xr_log.specs.declared.held.Growing.{Growing}
use Rattle.xr_log.specs.declared.held.Held.{Held}
use Rattle.xr_log.specs.declared.packing.Fill.{Fill}
use Rattle.xr_log.specs.CommitSteps.{KeepsOpen, OnlyPushes, StepRuns}
use Rattle.xr_log.specs.Filling.{Fills, HasSpace, KeepsLimit}
use Rattle.xr_log.specs.Gathered.{Said}
use Rattle.xr_log.specs.Held.{cycle_of}
use Rattle.xr_log.specs.KeepsNow.{KeepsNow}
use Rattle.xr_log.specs.States.{IsWithinBounds, LeavesOneOf, LeavesWithin}
use Rattle.xr_log.specs.Writing.{IsDiskFault, IsStep, OnlyPacks, RunsOver}

-- where nothing happened
pub rests_over : (disk : DiskView) (log : Held) (now : State) (said : Said) (next : ℕ) (states : List State) (phase : Phase)
    → KeepsOpen disk log now said next states phase → RunsOver disk disk states (cycle_of log) next
rests_over disk log now said next states phase k =
    let keeps = k.keeps in
    let cycles : keeps.holds.live_in.head.head.lsn.cycle ≤ cycle_of log = (let e = ap (λ (h : Head). h.lsn.cycle) keeps.last_is in omega (arith, e)) in
    record {
      states_run = begin {P = LeavesOneOf states} keeps.rest (λ sound. (keeps.durable, keeps.among, keeps.holds));
      bounds_run = begin {P = LeavesWithin (cycle_of log) next} keeps.rest
          (λ sound. record { state = keeps.durable; holds = keeps.holds; cycles = cycles; ids = keeps.durable_ids });
      image = keeps.image;
      told = keeps.rest.seen;
    }

-- a list that begins earlier does, too
pub more_states : (disk : DiskView) (growing : Growing) (now : State) (said : Said) (next : ℕ) (states : List State) → KeepsNow disk growing now said next (now ∷ [])
    → Contains states now → KeepsNow disk growing now said next states
more_states disk growing now said next states k among = record {
  image = k.image;
  rest = k.rest;
  long = k.long;
  durable = k.durable;
  among = subst (Contains states) (only k.durable k.among) among;
  holds = k.holds;
  last_is = k.last_is;
  gathered = k.gathered;
  durable_ids = k.durable_ids;
  ids = k.ids;
} where
  only : (state : State) → Contains (now ∷ []) state → now ≡ state
  only state (zero, below, is) = is
  only state (suc i, below, is) = absurd (omega (arith, below))

-- a later bound is one, too
pub later_bound : (old new : DiskView) (cycle later next : ℕ) → cycle ≤ later → Runs old new (LeavesWithin cycle next) → Runs old new (LeavesWithin later next)
later_bound old new cycle later next less runs = record {
  so_far = leaves_more runs.so_far (λ c within sound. raised c (within sound));
  now = λ c left sound. raised c (runs.now c left sound);
} where
  raised : (c : Crash) → IsWithinBounds cycle next c.image → IsWithinBounds later next c.image
  raised c w = record { state = w.state; holds = w.holds; cycles = (let e = w.cycles in omega (arith, e, less)); ids = w.ids }

-- one step after another
pub runs_then : (old mid new : DiskView) (states : List State) (cycle later next : ℕ) → cycle ≤ later → RunsOver old mid states cycle next
    → RunsOver mid new states later next → RunsOver old new states later next
runs_then old mid new states cycle later next less first second = record {
  states_run = record { so_far = and_then first.states_run.so_far second.states_run.so_far; now = second.states_run.now };
  bounds_run = record { so_far = and_then (later_bound old mid cycle later next less first.bounds_run).so_far second.bounds_run.so_far; now = second.bounds_run.now };
  image = second.image;
  told = second.told;
}

only_packs : (old mid new : Held) → OnlyPacks old mid → OnlyPacks mid new → OnlyPacks old new
only_packs old mid new first second = record {
  uuid = second.uuid ∙ first.uuid;
  blocks = second.blocks ∙ first.blocks;
  dirty = second.dirty ∙ first.dirty;
  table = second.table ∙ first.table;
  next = second.next ∙ first.next;
  tid = second.tid ∙ first.tid;
  ends_open = second.ends_open ∙ first.ends_open;
}

pub later_fault : (before mid after : ℕ) (log : Held) (fault : LogFault) → before ≤ mid → IsDiskFault mid after log fault → IsDiskFault before after log fault
later_fault before mid after log (DiskFault faults) less (rose, is, down) = (omega (arith, less, rose), is, down)
later_fault before mid after log (Worn cycle) less is = is
later_fault before mid after log (Down faults) less is = is

pub step_then : {T U : Type 0} (disk disk' disk'' : DiskView) (old mid new : Held) (one : Result T LogFault) (two : Result U LogFault)
    → IsStep disk disk' old mid one → IsStep disk' disk'' mid new two → IsStep disk disk'' old new two
step_then {U = U} disk disk' disk'' old mid new one two first second = record {
  same = only_packs old mid new first.same second.same;
  faults = let a = first.faults in let b = second.faults in omega (arith, a, b);
  moment = let a = first.moment in let b = second.moment in omega (arith, a, b);
  cycle = let a = first.cycle in let b = second.cycle in omega (arith, a, b);
  fault = late two second.fault;
  up = second.up;
} where
  late : (result : Result U LogFault) → IfErr result (IsDiskFault disk'.faults disk''.faults new) → IfErr result (IsDiskFault disk.faults disk''.faults new)
  late (Ok x) is = tt
  late (Err fault) is = later_fault disk.faults disk'.faults disk''.faults new fault first.faults is

-- an operation was pushed after a step
pub push_runs : (disk disk' : DiskView) (old mid new : Held) (phase : Phase) → StepRuns disk old phase disk' mid → OnlyPushes mid new → StepRuns disk old phase disk' new
push_runs disk disk' old mid new phase runs only now said next states k =
    subst (λ (cycle : ℕ). RunsOver disk disk' states cycle next) (sym (ap (λ (h : Head). h.lsn.cycle) only.last)) (runs now said next states k)

pub push_limit : (old mid new : Held) (f f' : Fill) → KeepsLimit old mid f → OnlyPushes mid new → f'.records ≡ f.records → KeepsLimit old new f'
push_limit old mid new f f' keeps only same limit has =
    subst (λ (cycle : ℕ). cycle ≤ limit) (sym (ap (λ (h : Head). h.lsn.cycle) only.last)) (keeps limit (subst (HasSpace limit old.growing.last) same has))

pub push_fills : (old mid new : Held) (f f' : Fill) → Fills old mid f → OnlyPushes mid new → f'.records ≡ f.records → length new.growing.packer.body ≡ f'.len → Fills old new f'
push_fills old mid new f f' fills only same len = record {
  len = len;
  space = λ limit more has. subst (λ (h : Head). HasSpace limit h more) (sym only.last)
      (fills.space limit more (subst (λ (n : ℕ). HasSpace limit old.growing.last (n + more)) same has));
}
