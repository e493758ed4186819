-- The states of a log over its steps.
use Rattle.std.proofs.Common.{◌≡◌, ℕ, zero, suc, ◌≤◌, Bool, List, [], ◌∷◌, ◌++◌, refl, sym, ap, subst, arith}
use Rattle.std.specs.Prelude.{Contains, map, None, Some}
use Rattle.std.specs.Global.{Vec}
use Rattle.std.proofs.lemmas.List.Elements.{Contains-append_right}
use Rattle.xr_disk.specs.Crash.{Crash, at_rest}
use Rattle.xr_disk.specs.Disk.{DiskView}
use Rattle.xr_record.specs.declared.head.Head.{Head}
use Rattle.xr_record.specs.Packing.{Packed}
use Rattle.xr_scan.specs.FalseRecords.{HasNoFalseRecord}
use Rattle.xr_scan.specs.Scanned.{copy_of}
use Rattle.xr_scan.specs.State.{Holds, State}
use Rattle.xr_log.specs.declared.held.Held.{Held}
use Rattle.xr_log.specs.declared.held.Slotted.{Slotted}
use Rattle.xr_log.specs.Calls.{IsUncommitted}
use Rattle.xr_log.specs.Gathered.{Said}
use Rattle.xr_log.specs.Held.{HasStates, IsInStep, LeavesCurrent, current, placings_of}
use Rattle.xr_log.specs.KeepsNow.{KeepsUnder}
use Rattle.xr_log.specs.States.{IsWithinBounds, LeavesOneOf, LeavesWithin, Placing, works_in}
use Rattle.xr_log.specs.Writing.{OnlyPacks}

-- the last state of a list is in it
pub current_among : (disk : DiskView) (log : Held) (states : List State) → HasStates disk log states → Contains states (current log)
current_among disk log states has =
    subst (λ (xs : List State). Contains xs (current log)) (sym has.ends) (Contains-append_right has.older (current log ∷ []) (current log) (0, omega arith, refl))

pub only_in : (state other : State) → Contains (state ∷ []) other → state ≡ other
only_in state other (zero, below, is) = is
only_in state other (suc k, below, is) = absurd (omega (arith, below))

-- a disk at rest leaves what its image holds
pub rest_leaves : (disk : DiskView) (last : Head) (anew : Bool) (packed : Packed) (now : State) (said : Said) (next : ℕ) (states : List State)
    → KeepsUnder disk last anew packed now said next states → (c : Crash) → disk.may_leave c → LeavesOneOf states c
rest_leaves disk last anew packed now said next states k c left sound =
    (k.durable, k.among, subst (λ (x : Crash). Holds x.image k.durable) (sym (k.rest.alone c left)) k.holds)

pub rest_within : (disk : DiskView) (last : Head) (anew : Bool) (packed : Packed) (now : State) (said : Said) (next : ℕ) (states : List State)
    → KeepsUnder disk last anew packed now said next states → (c : Crash) → disk.may_leave c → LeavesWithin last.lsn.cycle next c
rest_within disk last anew packed now said next states k c left sound =
    subst (λ (x : Crash). IsWithinBounds last.lsn.cycle next x.image) (sym (k.rest.alone c left)) record {
      state = k.durable;
      holds = k.holds;
      cycles = subst (λ (h : Head). h.lsn.cycle ≤ last.lsn.cycle) (sym k.last_is) (omega arith);
      ids = k.durable_ids;
    }

-- what is in step with a disk has its states
pub in_step_has : (disk : DiskView) (log : Held) (states older : List State) → states ≡ older ++ current log ∷ [] → IsInStep disk log states → HasStates disk log states
in_step_has disk log states older ends s = record {
  older = older;
  ends = ends;
  now = rest_leaves disk log.growing.last log.growing.anew log.growing.packer (current log) s.said log.next states s.keeps;
  within = rest_within disk log.growing.last log.growing.anew log.growing.packer (current log) s.said log.next states s.keeps;
  image = s.keeps.image;
  told = s.keeps.rest.seen;
  rest = λ up. s;
}

-- where only the record that grows changes, the committed state is the same
pub same_placings : (old new : Held) → OnlyPacks old new → placings_of new ≡ placings_of old
same_placings old new same = ap (λ (table : Vec Slotted). map (λ (s : Slotted). (let p : Placing = record { slot = s.slot; work = s.work } in p)) table.items) same.table

pub same_current : (old new : Held) → OnlyPacks old new → current new ≡ current old
same_current old new same = λ i. record {
  uuid = same.uuid i;
  blocks = copy_of (same.blocks i).items;
  works = works_in (same_placings old new same i);
}

pub same_uncommitted : (old new : Held) → OnlyPacks old new → IsUncommitted old new
same_uncommitted old new same = record { placings = same_placings old new same; state = same_current old new same }

-- of one state that stands on a disk at rest
pub one_is_left : (disk : DiskView) (log : Held) → HasStates disk log (current log ∷ []) → log.down ≡ None
    → ((image : List ℕ) → disk.seen ≡ Some image → (c : Crash) × (c.image ≡ image) × disk.may_leave c) → LeavesCurrent disk log
one_is_left disk log has up stays =
    let k = (has.rest up).keeps in
    let c = stays k.image k.rest.seen in
    let same : c.0 ≡ at_rest k.image = k.rest.alone c.0 c.2 in
    record {
      crash = c.0;
      may = c.2;
      sound = subst HasNoFalseRecord (sym same) (λ w r within stands into. absurd (let h = within.1 in omega (arith, h)));
      holds = subst (Holds c.0.image) (sym (only_in (current log) k.durable k.among)) (subst (λ (xs : List ℕ). Holds xs k.durable) (sym c.1) k.holds);
    }
