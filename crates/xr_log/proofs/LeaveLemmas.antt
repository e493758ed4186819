-- What is left where a log was forced and left.
use Rattle.std.proofs.Common.{◌≡◌, ℕ, ◌+◌, ◌≤◌, ◌∙◌, Bool, true, false, List, [], ◌∷◌, length, sym, ap, subst, arith, Result, Ok, Err}
use Rattle.std.specs.Prelude.{None, OnErr, OnOk, IfErr, ◌&&◌, ◌==◌}
use Rattle.std.proofs.lemmas.Bool.{eqb-true, false≢true}
use Rattle.xr_disk.specs.Crash.{Crash}
use Rattle.xr_disk.specs.Disk.{DiskView, IsAtRest, LeavesOnly}
use Rattle.xr_disk.specs.Runs.{leaves_more}
use Rattle.xr_record.specs.declared.head.Head.{Head}
use Rattle.xr_scan.specs.LoggedEntries.{logged_items}
use Rattle.xr_scan.specs.NextId.{next_id}
use Rattle.xr_commit.specs.LogEnds.{IsCleanRecord}
use Rattle.xr_scan.specs.State.{Holds, State}
use Rattle.xr_log.specs.declared.fault.LogFault.{LogFault}
use Rattle.xr_log.specs.declared.fault.LogFault.TheVariants.{DiskFault, Down, Worn}
use Rattle.xr_log.specs.declared.held.Held.{Held}
use Rattle.xr_log.specs.Calls.{HasEndCause, HasLogCause}
use Rattle.xr_log.specs.Forces.{Forces, HasNothingPacked, Leaves}
use Rattle.xr_log.specs.Held.{HasStates, current, cycle_of, is_untouched}
use Rattle.xr_log.specs.Positions.{packed_sectors}
use Rattle.xr_log.specs.Resumes.{IsClosed, IsLeft}
use Rattle.xr_log.specs.States.{LeavesOneOf, LeavesWithin}
use Rattle.xr_log.proofs.StateLemmas.{only_in}

-- wider bounds
pub within_more : (cycle more next : ℕ) (c : Crash) → cycle ≤ more → LeavesWithin cycle next c → LeavesWithin more next c
within_more cycle more next c less left sound =
    let w = left sound in
    record { state = w.state; holds = w.holds; cycles = (let h = w.cycles in omega (arith, h, less)); ids = w.ids }

-- an image that holds the state as the newest record's and the next id allow
record HoldsWithin (image : List ℕ) (cycle next : ℕ) (clean : Type 0) (state : State) : Type 0 where
  pub holds : Holds image state
  pub cycles : holds.live_in.head.head.lsn.cycle ≤ cycle
  pub ids : next_id (logged_items holds.logged) ≤ next
  pub is_clean : clean → IsCleanRecord holds.live_in.head

held_now : (disk : DiskView) (new : Held) (state : State) → HasStates disk new (current new ∷ []) → (up : new.down ≡ None) → current new ≡ state
    → (image : List ℕ) × IsAtRest image disk × HoldsWithin image (cycle_of new) new.next (is_untouched new ≡ true) state
held_now disk new state has up same =
    let s = has.rest up in
    let k = s.keeps in (
      k.image,
      k.rest,
      subst (HoldsWithin k.image (cycle_of new) new.next (is_untouched new ≡ true)) (sym (only_in (current new) k.durable k.among) ∙ same) record {
        holds = k.holds;
        cycles = subst (λ (h : Head). h.lsn.cycle ≤ cycle_of new) (sym k.last_is) (omega arith);
        ids = k.durable_ids;
        is_clean = s.clean;
      },
    )

left_of : (disk : DiskView) (log new : Held) → HasStates disk new (current new ∷ []) → new.down ≡ None → current new ≡ current log → cycle_of new ≤ cycle_of log + 1
    → new.next ≡ log.next → (left : IsLeft disk log) × (is_untouched new ≡ true → IsCleanRecord left.holds.live_in.head)
left_of disk log new has up same cycle next =
    let h = held_now disk new (current log) has up same in
    let w = h.2 in (
      record {
        image = h.0;
        rest = h.1;
        holds = w.holds;
        cycle = (let c = w.cycles in omega (arith, c, cycle));
        next = (let c = w.ids in omega (arith, c, next));
      },
      w.is_clean,
    )

-- where it was forced
pub lefts : (disk disk' : DiskView) (old new : Held) (result : Result (Unit {0}) LogFault) → Forces disk disk' old new result
    → OnOk result ((states : List State) → HasStates disk old states → (left : IsLeft disk' old) × (is_untouched new ≡ true → IsCleanRecord left.holds.live_in.head))
lefts disk disk' old new (Ok x) f = λ states has. left_of disk' old new (f.covered states has) f.call.up f.same.state f.call.cycles.1 f.gives_no_ids
lefts disk disk' old new (Err e) f = tt

are_left : (disk disk' : DiskView) (old new : Held) (result : Result (Unit {0}) LogFault) → Forces disk disk' old new result
    → OnOk result ((states : List State) → HasStates disk old states → IsLeft disk' old)
are_left disk disk' old new (Ok x) f = λ states has. (lefts disk disk' old new (Ok x) f states has).0
are_left disk disk' old new (Err e) f = tt

nothing_in : (log : Held) → is_untouched log ≡ true → HasNothingPacked log
nothing_in log untouched = by_anew log.growing.anew untouched where
  by_anew : (anew : Bool) → (anew && length log.growing.packer.body == 0) ≡ true → HasNothingPacked log
  by_anew true is = eqb-true (length log.growing.packer.body) 0 is
  by_anew false is = absurd (false≢true is)

are_clean : (disk disk' : DiskView) (old new : Held) (result : Result (Unit {0}) LogFault) → Forces disk disk' old new result → (HasNothingPacked old → new ≡ old)
    → OnOk result (is_untouched old ≡ true → (states : List State) → HasStates disk old states → IsClosed disk' old)
are_clean disk disk' old new (Ok x) f same = λ untouched states has.
    let l = lefts disk disk' old new (Ok x) f states has in
    record { left = l.0; clean = l.1 (ap is_untouched (same (nothing_in old untouched)) ∙ untouched) }
are_clean disk disk' old new (Err e) f same = tt

fail : (disk disk' : DiskView) (old new : Held) (result : Result (Unit {0}) LogFault) → Forces disk disk' old new result
    → OnErr result ((states : List State) → HasStates disk old states → (c : Crash) → disk'.may_leave c → LeavesOneOf states c)
fail disk disk' old new (Ok x) f = tt
fail disk disk' old new (Err e) f = λ states has. (f.kept states has).now

end_cause : (sectors before after : ℕ) (old new : Held) (fault : LogFault) → HasLogCause sectors 0 before after old new fault → HasEndCause sectors 0 before after old fault
end_cause sectors before after old new (DiskFault n) (up, rose, is, down) = (up, rose, is)
end_cause sectors before after old new (Worn n) (is, wears, up, same) = (is, wears, up)
end_cause sectors before after old new (Down n) (down, same) = down

end_causes : (sectors before after : ℕ) (old new : Held) (result : Result (Unit {0}) LogFault) → IfErr result (HasLogCause sectors 0 before after old new)
    → IfErr result (HasEndCause sectors 0 before after old)
end_causes sectors before after old new (Ok x) cause = tt
end_causes sectors before after old new (Err e) cause = end_cause sectors before after old new e cause

rests_worn : (disk disk' : DiskView) (old new : Held) (result : Result (Unit {0}) LogFault) → Forces disk disk' old new result → (cycle : ℕ) → result ≡ Err (Worn cycle)
    → (states : List State) → HasStates disk old states → (image : List ℕ) × IsAtRest image disk'
rests_worn disk disk' old new result f cycle is states has =
    let worn : Forces disk disk' old new (Err (Worn cycle)) = subst (Forces disk disk' old new) is f in
    let cause = worn.call.cause in
    let s = (worn.kept states has).rest (ap (λ (log : Held). log.down) cause.3 ∙ cause.2) in
    (s.keeps.image, s.keeps.rest)

pub leaves_forced : (disk disk' : DiskView) (old new : Held) (result : Result (Unit {0}) LogFault) → Forces disk disk' old new result → (HasNothingPacked old → new ≡ old)
    → Leaves disk disk' old result
leaves_forced disk disk' old new result f same =
    let sectors : ℕ = packed_sectors old.growing.packer in
    record {
      any_moment = record {
        one = f.any_moment.one;
        within = λ states has. subst (λ (n : ℕ). LeavesOnly disk disk' (LeavesWithin (cycle_of old + 1) n)) f.gives_no_ids
            (leaves_more (f.any_moment.within states has) (λ c left. within_more (cycle_of new) (cycle_of old + 1) new.next c f.call.cycles.1 left));
      };
      left = are_left disk disk' old new result f;
      clean = are_clean disk disk' old new result f same;
      failed = fail disk disk' old new result f;
      worn = rests_worn disk disk' old new result f;
      call = record {
        faults = f.call.faults;
        moment = f.call.moment;
        cause = end_causes sectors disk.faults disk'.faults old new result f.call.cause;
        fresh = f.call.fresh;
        down = f.call.down;
      };
    }
