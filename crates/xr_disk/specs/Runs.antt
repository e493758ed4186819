-- How what a crash may leave goes on over calls, one line a call.
use Rattle.std.specs.Prelude.{◌≡◌, ℕ, Some, List, Result, OnOk, OnErr, Ok, Err, refl}
use Rattle.std.proofs.Common.{inl, inr, arith, subst, sym, ◌∙◌}
use Rattle.xr_disk.specs.Crash.{Crash, Torn, at_rest}
use Rattle.xr_disk.specs.Disk.{DiskView, LeavesOnly, IsAtRest, IsSame, IsCall, MayTear, CoversNoMore, OnlyReads}

-- nothing happened
pub nothing_left : (disk : DiskView) (P : Crash → Type 0) → LeavesOnly disk disk P
nothing_left disk P = record {
  later = omega arith;
  others = λ t c within left. inl left;
  kept = λ t c within left. left;
}

-- what has P has Q
pub leaves_more : {old new : DiskView} {P Q : Crash → Type 0} → LeavesOnly old new P → ((c : Crash) → P c → Q c) → LeavesOnly old new Q
leaves_more {P = P} {Q = Q} left more = record {
  later = left.later;
  others = λ t c within now. elim (left.others t c within now) [ inl before ↦ inl before | inr has ↦ inr (more c has) ];
  kept = left.kept;
}

-- one stretch after another
pub and_then : {old mid new : DiskView} {P : Crash → Type 0} → LeavesOnly old mid P → LeavesOnly mid new P → LeavesOnly old new P
and_then {old = old} {mid = mid} {new = new} {P = P} first second = record {
  later = let a = first.later in let b = second.later in omega arith;
  others = λ t c within now.
      elim (second.others t c (let a = first.later in omega arith) now) [ inl before ↦ first.others t c within before | inr has ↦ inr has ];
  kept = λ t c within left. second.kept t c (let a = first.later in omega arith) (first.kept t c within left);
}

-- From the old disk to the new a crash leaves only what has P, beside what was left before, and a crash now does too.
pub record Runs (old new : DiskView) (P : Crash → Type 0) : Type 0 where
  pub so_far : LeavesOnly old new P
  pub now : (c : Crash) → new.may_leave c → P c

-- it begins at rest
pub begin : {disk : DiskView} {image : List ℕ} {P : Crash → Type 0} → IsAtRest image disk → P (at_rest image) → Runs disk disk P
begin {disk = disk} {image = image} {P = P} rest here = record {
  so_far = nothing_left disk P;
  now = λ c left. subst P (sym (rest.alone c left)) here;
}

-- whatever a call is, a crash right after it must have P
pub then_call : {T E : Type 0} {old mid new : DiskView} {result : Result T E} {P : Crash → Type 0}
    → Runs old mid P → IsCall mid new result → ((c : Crash) → new.may_leave c → P c) → Runs old new P
then_call runs call after = record {
  so_far = and_then runs.so_far (leaves_more call.time after);
  now = after;
}

-- a read
pub then_read : {T E : Type 0} {old mid new : DiskView} {result : Result T E} {P : Crash → Type 0}
    → Runs old mid P → IsCall mid new result → IsSame mid new → Runs old new P
then_read runs call same = then_call runs call (λ c left. runs.now c ((same.crash c).0 left))

-- a write
pub then_write : {T E : Type 0} {old mid new : DiskView} {result : Result T E} {P : Crash → Type 0} (at : ℕ) (bytes : List ℕ)
    → Runs old mid P → IsCall mid new result → MayTear at bytes mid new
    → ((d c : Crash) → mid.may_leave d → Torn at bytes d c → P c) → Runs old new P
then_write {P = P} at bytes runs call tear torn = then_call runs call
    (λ c left. elim (tear.crash c left) [ inl before ↦ runs.now c before | inr (d, before, over) ↦ torn d c before over ])

-- after a sync that answered Ok the disk is at rest, and after a fault a crash leaves no more than before
pub after_sync : {T E : Type 0} {P : Crash → Type 0} (mid new : DiskView) (s : List ℕ) (result : Result T E)
    → ((c : Crash) → mid.may_leave c → P c)
    → OnOk result ((s : List ℕ) → mid.seen ≡ Some s → IsAtRest s new)
    → OnErr result (CoversNoMore mid new)
    → mid.seen ≡ Some s → P (at_rest s) → (c : Crash) → new.may_leave c → P c
after_sync {P = P} mid new s (Ok x) before durable failed seen here c left = subst P (sym ((durable s seen).alone c left)) here
after_sync mid new s (Err e) before durable failed seen here c left = before c ((failed.crash c).0 left)

-- a sync of a disk that tells what it reads
pub then_sync : {old mid new : DiskView} {T E : Type 0} {result : Result T E} {P : Crash → Type 0} (s : List ℕ)
    → Runs old mid P → IsCall mid new result
    → OnOk result ((s : List ℕ) → mid.seen ≡ Some s → IsAtRest s new)
    → OnErr result (CoversNoMore mid new)
    → mid.seen ≡ Some s → P (at_rest s) → Runs old new P
then_sync {mid = mid} {new = new} {result = result} s runs call durable failed seen here =
    then_call runs call (after_sync mid new s result runs.now durable failed seen here)

-- Since a moment at which the disk was at rest a crash has left only what has P.
pub since_rest : {old new : DiskView} {image : List ℕ} {P : Crash → Type 0}
    → IsAtRest image old → ((c : Crash) → old.left_since old.moment c → old.may_leave c) → P (at_rest image)
    → LeavesOnly old new P → (c : Crash) → new.left_since old.moment c → P c
since_rest {old = old} {P = P} rest only_now here left c since =
    elim (left.others old.moment c (omega arith) since) [ inl before ↦ subst P (sym (rest.alone c (only_now c before))) here | inr has ↦ has ]

-- no call, one read, and reads after reads
pub nothing_read : (disk : DiskView) → OnlyReads disk disk
nothing_read disk = record {
  same = record { seen = refl; crash = λ c. (λ left. left, λ left. left) };
  time = nothing_left disk disk.may_leave;
}

pub read_once : {T E : Type 0} {old new : DiskView} {result : Result T E} → IsCall old new result → IsSame old new → OnlyReads old new
read_once call same = record { same = same; time = leaves_more call.time (λ c left. (same.crash c).0 left) }

pub read_on : {old mid new : DiskView} → OnlyReads old mid → OnlyReads mid new → OnlyReads old new
read_on {old = old} {mid = mid} {new = new} first second = record {
  same = record {
    seen = second.same.seen ∙ first.same.seen;
    crash = λ c. (λ left. (first.same.crash c).0 ((second.same.crash c).0 left), λ left. (second.same.crash c).1 ((first.same.crash c).1 left));
  };
  time = and_then first.time (leaves_more second.time (λ c left. (first.same.crash c).0 left));
}
