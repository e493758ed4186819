-- How what crashes leave of a log goes on over its calls, one line a call.
use Rattle.std.specs.Prelude.{◌≡◌, ℕ, List, [], ◌∷◌, ◌++◌, Contains, refl}
use Rattle.std.proofs.Common.{inl, inr, arith, subst, sym, ap, ◌∙◌}
use Rattle.std.proofs.lemmas.List.{append_assoc}
use Rattle.std.proofs.lemmas.List.Elements.{Contains-append_left, Contains-append_right}
use Rattle.xr_disk.specs.Crash.{Crash}
use Rattle.xr_disk.specs.Disk.{DiskView, LeavesOnly}
use Rattle.xr_disk.specs.Runs.{and_then, leaves_more, nothing_left}
use Rattle.xr_scan.specs.State.{State}
use Rattle.xr_log.specs.declared.held.Held.{Held}
use Rattle.xr_log.specs.Held.{HasStates, IsInStep, current}
use Rattle.xr_log.specs.Histories.{AddsState, AreAmong, CoversSince, IsLogHistory, KeepsLast, KeepsStates, LeavesStates}
use Rattle.xr_log.specs.States.{LeavesOneOf}

pub one_of_more : (some all : List State) (c : Crash) → AreAmong some all → LeavesOneOf some c → LeavesOneOf all c
one_of_more some all c among left whole = let h = left whole in (h.0, among h.0 h.1, h.2)

-- memory is in step with any list that has the state on the disk
pub in_step_with : (disk : DiskView) (log : Held) (some all : List State) → (s : IsInStep disk log some) → Contains all s.keeps.durable → IsInStep disk log all
in_step_with disk log some all s among = record {
  said = s.said;
  keeps = record {
    image = s.keeps.image;
    rest = s.keeps.rest;
    long = s.keeps.long;
    durable = s.keeps.durable;
    among = among;
    holds = s.keeps.holds;
    last_is = s.keeps.last_is;
    gathered = s.keeps.gathered;
    durable_ids = s.keeps.durable_ids;
    ids = s.keeps.ids;
  };
  ends = s.ends;
  rises = s.rises;
  pending_are = s.pending_are;
  dirty = s.dirty;
  clean = s.clean;
  written = s.written;
}

-- a list of states may begin earlier than it must
pub begins_earlier : (disk : DiskView) (log : Held) (before states : List State) → HasStates disk log states → HasStates disk log (before ++ states)
begins_earlier disk log before states has =
    let among : AreAmong states (before ++ states) = λ state within. Contains-append_right before states state within in
    record {
      older = before ++ has.older;
      ends = ap (λ (xs : List State). before ++ xs) has.ends ∙ sym (append_assoc before has.older (current log ∷ []));
      now = λ c left. one_of_more states (before ++ states) c among (has.now c left);
      within = has.within;
      image = has.image;
      told = has.told;
      rest = λ up. let s = has.rest up in in_step_with disk log states (before ++ states) s (among s.keeps.durable s.keeps.among);
    }

pub history_begins : (disk : DiskView) (log : Held) (states : List State) → HasStates disk log states → IsLogHistory disk disk log states
history_begins disk log states now = record { so_far = nothing_left disk (LeavesOneOf states); older = []; states = states; all_are = refl; now = now }

among_front : (all more : List State) → AreAmong all (all ++ more)
among_front all more state has = Contains-append_left all more state has

among_all : (older states all : List State) → all ≡ older ++ states → AreAmong states all
among_all older states all is state has = subst (λ (xs : List State). Contains xs state) (sym is) (Contains-append_right older states state has)

-- a call leaves the states so far, whatever is appended
call_on : (entry old new : DiskView) (log : Held) (all more : List State) (cycle next : ℕ) → (h : IsLogHistory entry old log all) → LeavesStates old log new cycle next
    → LeavesOnly entry new (LeavesOneOf (all ++ more))
call_on entry old new log all more cycle next h moments =
    and_then (leaves_more h.so_far (λ c left. one_of_more all (all ++ more) c (among_front all more) left))
    (leaves_more (moments.one h.states h.now)
    (λ c left. one_of_more h.states (all ++ more) c (λ state has. among_front all more state (among_all h.older h.states all h.all_are state has)) left))

pub then_commit : (entry old new : DiskView) (log log' : Held) (all : List State) (cycle next : ℕ) → IsLogHistory entry old log all → LeavesStates old log new cycle next
    → AddsState old log new log' → IsLogHistory entry new log' (all ++ current log' ∷ [])
then_commit entry old new log log' all cycle next h moments adds =
    let last : List State = current log' ∷ [] in
    record {
      so_far = call_on entry old new log all last cycle next h moments;
      older = h.older;
      states = h.states ++ last;
      all_are = ap (λ (xs : List State). xs ++ last) h.all_are ∙ append_assoc h.older h.states last;
      now = adds h.states h.now;
    }

stay_on : (entry old new : DiskView) (log : Held) (all : List State) (cycle next : ℕ) → (h : IsLogHistory entry old log all) → LeavesStates old log new cycle next
    → LeavesOnly entry new (LeavesOneOf all)
stay_on entry old new log all cycle next h moments =
    and_then h.so_far (leaves_more (moments.one h.states h.now) (λ c left. one_of_more h.states all c (among_all h.older h.states all h.all_are) left))

pub then_stay : (entry old new : DiskView) (log log' : Held) (all : List State) (cycle next : ℕ) → IsLogHistory entry old log all → LeavesStates old log new cycle next
    → KeepsStates old log new log' → IsLogHistory entry new log' all
then_stay entry old new log log' all cycle next h moments kept = record {
  so_far = stay_on entry old new log all cycle next h moments;
  older = h.older;
  states = h.states;
  all_are = h.all_are;
  now = kept h.states h.now;
}

pub then_force : (entry old new : DiskView) (log log' : Held) (all : List State) (cycle next : ℕ) → IsLogHistory entry old log all → LeavesStates old log new cycle next
    → current log' ≡ current log → KeepsLast old log new log' → IsLogHistory entry new log' all
then_force entry old new log log' all cycle next h moments same covered = record {
  so_far = stay_on entry old new log all cycle next h moments;
  older = h.older ++ h.now.older;
  states = current log' ∷ [];
  all_are = h.all_are ∙ ap (λ (xs : List State). h.older ++ xs) h.now.ends ∙ sym (append_assoc h.older h.now.older (current log ∷ []))
      ∙ ap (λ (s : State). (h.older ++ h.now.older) ++ s ∷ []) (sym same);
  now = covered h.states h.now;
}

-- that only these were left since a moment is had at any time, and stays over calls
pub covers_now : (disk : DiskView) (log : Held) (states : List State) → HasStates disk log states → ((c : Crash) → disk.left_since disk.moment c → disk.may_leave c)
    → CoversSince disk.moment disk states
covers_now disk log states now only = record { earlier = omega arith; since = λ c left. now.now c (only c left) }

pub covers_on : (moment : ℕ) (old new : DiskView) (states some all : List State) → CoversSince moment old states → LeavesOnly old new (LeavesOneOf some)
    → AreAmong some all → AreAmong states all → CoversSince moment new all
covers_on moment old new states some all covers left among before = record {
  earlier = let a = covers.earlier in let b = left.later in omega (arith, a, b);
  since = λ c since. elim (left.others moment c covers.earlier since) [
    | inl then ↦ one_of_more states all c before (covers.since c then)
    | inr now ↦ one_of_more some all c among now
  ];
}
