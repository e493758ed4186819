-- Runs of one owner that are held against the last one of their line alone.
use Rattle.std.proofs.Common.{◌≡◌, ◌↔◌, ◌≢◌, ◌⊎◌, ℕ, ◌+◌, ◌-◌, ◌*◌, ◌<◌, ◌≤◌, ◌==◌, ◌||◌, not, Bool, true, false, if◌then◌else◌, List, [], ◌∷◌, ◌++◌, length, length-append, get_or, replicate, slice_set, refl, sym, ap, ◌∙◌, subst, arith, inl, inr, ⊎_elim}
use Rattle.std.proofs.Math.Seq.{get_or-append_seam}
use Rattle.std.proofs.lemmas.Bool.{cases_eq, cases_lt, eq-eqb, ne_eqb}
use Rattle.std.proofs.lemmas.Bool.Decides.{nat_tests}
use Rattle.std.proofs.lemmas.Cmp.{ranked}
use Rattle.std.proofs.lemmas.List.{get_or_append_left, get_or-replicate, get_or_past, get_or-set_other, get_or-set_same, length-replicate, length-set}
use Rattle.std.specs.List.{Any}
use Rattle.std.specs.Ordering.{nat_cmp, ordering_then}
use Rattle.std.specs.declared.cmp.Ordering.{Ordering}
use Rattle.std.specs.declared.cmp.Ordering.TheVariants.{Less, Equal, Greater}
use Rattle.xr_verify.specs.declared.ledger_reverse.TheConstants.{LINES}
use Rattle.xr_kinds.specs.declared.reverse.Reverse.{Reverse}
use Rattle.xr_base.specs.declared.geometry.TheConstants.{OWN_COW}
use Rattle.xr_kinds.specs.declared.span.Span.{Span}
use Rattle.xr_verify.specs.Ledger.{AgreesWithAll, IsNext}
use Rattle.xr_verify.specs.OwnedRuns.{HoldsEnds, ledger_line}
use Rattle.xr_kinds.specs.Reverse.{is_reverse, on_one_line, reverse_form, reverse_order, reverse_span}
use Rattle.xr_kinds.specs.SpanLaws.{group_run}
use Rattle.xr_kinds.specs.Spans.{apart, end_of}

pub run_of : (x : Reverse) → is_reverse x ≡ true → (512 ≤ x.start) × (0 < x.len) × (x.start + x.len ≤ 2048)
run_of x good = group_run (reverse_span x) (grind (arith, nat_tests))

file_of : (x : Reverse) → is_reverse x ≡ true → x.owner ≢ OWN_COW → (128 ≤ x.owner) × (x.owner < 160) × (x.off + x.len ≤ 512)
file_of x good other = (grind (arith, nat_tests), grind (arith, nat_tests), grind (arith, nat_tests))

staged_line : (x : Reverse) → x.owner ≡ OWN_COW → ledger_line x ≡ 0
staged_line x is = ap (λ (test : Bool). if test then 0 else (x.owner - 128) * 2048 + (x.start - x.off)) (eq-eqb x.owner OWN_COW is)

file_line : (x : Reverse) → x.owner ≢ OWN_COW → ledger_line x ≡ (x.owner - 128) * 2048 + (x.start - x.off)
file_line x other = ap (λ (test : Bool). if test then 0 else (x.owner - 128) * 2048 + (x.start - x.off)) (ne_eqb x.owner OWN_COW other)

or_true : (a b : Bool) → b ≡ true → (a || b) ≡ true
or_true true b is = refl
or_true false b is = is

true_of : (a b : Bool) → a ≡ true → (not a || b) ≡ true → b ≡ true
true_of true b is either = either
true_of false b is either = absurd cc

owners_of : (x r : Reverse) → on_one_line x r ≡ true → x.owner ≡ r.owner
owners_of x r on = grind (arith, nat_tests)

sum_of : (x r : Reverse) → on_one_line x r ≡ true → x.owner ≢ OWN_COW → x.start + r.off ≡ r.start + x.off
sum_of x r on other = grind (arith, nat_tests)

on_if : (x r : Reverse) → x.owner ≡ r.owner → ((x.owner == OWN_COW) || (x.start + r.off == r.start + x.off)) ≡ true → on_one_line x r ≡ true
on_if x r owner line = rw (eq-eqb x.owner r.owner owner, line) refl

-- two runs are on one line exactly where their lines are one
line_same : (x r : Reverse) → is_reverse x ≡ true → is_reverse r ≡ true → on_one_line x r ≡ true → ledger_line x ≡ ledger_line r
line_same x r good_x good_r on =
    let owner = owners_of x r on in
    ⊎_elim
    (λ (staged : x.owner ≡ OWN_COW). staged_line x staged ∙ sym (staged_line r (sym owner ∙ staged)))
    (λ (file : x.owner ≡ OWN_COW → ⊥).
    let other : r.owner ≢ OWN_COW = λ is. file (owner ∙ is) in
    file_line x file
    ∙ omega (arith, owner, sum_of x r on file, run_of x good_x, run_of r good_r, file_of x good_x file, file_of r good_r other)
    ∙ sym (file_line r other))
    (cases_eq x.owner OWN_COW)

same_line : (x r : Reverse) → is_reverse x ≡ true → is_reverse r ≡ true → ledger_line x ≡ ledger_line r → on_one_line x r ≡ true
same_line x r good_x good_r same =
    let run_x = run_of x good_x in
    let run_r = run_of r good_r in
    ⊎_elim
    (λ (staged : x.owner ≡ OWN_COW). ⊎_elim
    (λ (also : r.owner ≡ OWN_COW). on_if x r (staged ∙ sym also) (ap (λ (test : Bool). test || (x.start + r.off == r.start + x.off)) (eq-eqb x.owner OWN_COW staged)))
    (λ (file : r.owner ≡ OWN_COW → ⊥). absurd (omega (arith, same, staged_line x staged, file_line r file, run_r, file_of r good_r file)))
    (cases_eq r.owner OWN_COW))
    (λ (file : x.owner ≡ OWN_COW → ⊥). ⊎_elim
    (λ (staged : r.owner ≡ OWN_COW). absurd (omega (arith, same, staged_line r staged, file_line x file, run_x, file_of x good_x file)))
    (λ (also : r.owner ≡ OWN_COW → ⊥).
    let line : (x.owner - 128) * 2048 + (x.start - x.off) ≡ (r.owner - 128) * 2048 + (r.start - r.off) = sym (file_line x file) ∙ same ∙ file_line r also in
    let owner : x.owner ≡ r.owner = omega (arith, line, run_x, run_r, file_of x good_x file, file_of r good_r also) in
    let sum : x.start + r.off ≡ r.start + x.off = omega (arith, line, owner, run_x, run_r, file_of x good_x file, file_of r good_r also) in
    on_if x r owner (or_true (x.owner == OWN_COW) (x.start + r.off == r.start + x.off) (eq-eqb (x.start + r.off) (r.start + x.off) sum)))
    (cases_eq r.owner OWN_COW))
    (cases_eq x.owner OWN_COW)

-- the order of the first blocks
not_greater : (o p : Ordering) → ordering_then o p ≡ Less → (o ≡ Less) ⊎ (o ≡ Equal)
not_greater Less p is = inl refl
not_greater Equal p is = inr refl
not_greater Greater p is = absurd cc

starts_below : (x r : Reverse) → reverse_order x r.start r.owner r.off ≡ Less → x.start ≤ r.start
starts_below x r is = ⊎_elim
    (λ (less : nat_cmp x.start r.start ≡ Less). let below : x.start < r.start = ranked x.start r.start Less (sym less) in omega (arith, below))
    (λ (equal : nat_cmp x.start r.start ≡ Equal). let same : x.start ≡ r.start = ranked x.start r.start Equal (sym equal) in omega (arith, same))
    (not_greater (nat_cmp x.start r.start) (ordering_then (nat_cmp x.owner r.owner) (nat_cmp x.off r.off)) is)

before_is_apart : (x r : Span) → end_of x < r.start → apart x r ≡ true
before_is_apart x r before = grind (arith, nat_tests)

apart_is_before : (x r : Span) → x.start ≤ r.start → 0 < r.len → apart x r ≡ true → end_of x < r.start
apart_is_before x r below some is = grind (arith, nat_tests)

agrees_off : (x r : Reverse) → on_one_line x r ≡ false → reverse_form.agree x r ≡ true
agrees_off x r is = rw is refl

agrees_on : (x r : Reverse) → apart (reverse_span x) (reverse_span r) ≡ true → reverse_form.agree x r ≡ true
agrees_on x r is = or_true (not (on_one_line x r)) (apart (reverse_span x) (reverse_span r)) is

apart_on : (x r : Reverse) → on_one_line x r ≡ true → reverse_form.agree x r ≡ true → apart (reverse_span x) (reverse_span r) ≡ true
apart_on x r on agrees = true_of (on_one_line x r) (apart (reverse_span x) (reverse_span r)) on agrees

zero_at : (size k : ℕ) → get_or (replicate {A = ℕ} size 0) k 0 ≡ 0
zero_at size k = ⊎_elim
    (λ (within : k < size). get_or-replicate size k 0 0 within)
    (λ (past : size ≤ k). get_or_past (replicate size 0) k 0 (omega (arith, past, length-replicate {A = ℕ} size 0)))
    (cases_lt k size)

agrees_cases : (x r : Reverse) (on : Bool) → on_one_line x r ≡ on → (on ≡ true → apart (reverse_span x) (reverse_span r) ≡ true) → reverse_form.agree x r ≡ true
agrees_cases x r false is apart_is = agrees_off x r is
agrees_cases x r true is apart_is = agrees_on x r (apart_is refl)

-- so a run agrees with all where the last one of its line ends before it
pub owned_agrees : (noted : List Reverse) (ends : List ℕ) (r : Reverse) → HoldsEnds ends noted → IsNext reverse_form noted r
    → (get_or ends (ledger_line r) 0 < r.start) ↔ AgreesWithAll reverse_form noted r
owned_agrees noted ends r holds next = (
  λ before k d within.
      let x = get_or noted k d in
      agrees_cases x r (on_one_line x r) refl (λ on.
      let line = line_same x r (next.passed.valid k d within) next.valid on in
      let same : get_or ends (ledger_line x) 0 ≡ get_or ends (ledger_line r) 0 = ap (λ (i : ℕ). get_or ends i 0) line in
      before_is_apart (reverse_span x) (reverse_span r) (omega (arith, before, same, holds.above k d within))),
  λ all. ⊎_elim
      (λ (none : get_or ends (ledger_line r) 0 ≡ 0). omega (arith, none, run_of r next.valid))
      (λ (found : Any (λ (x : Reverse). (ledger_line x ≡ ledger_line r) × (end_of (reverse_span x) ≡ get_or ends (ledger_line r) 0)) noted).
      let x = found.1 in
      let good : is_reverse x ≡ true = ap is_reverse (sym found.3) ∙ next.passed.valid found.0 x found.2 in
      let agrees : reverse_form.agree x r ≡ true = ap (λ (y : Reverse). reverse_form.agree y r) (sym found.3) ∙ all found.0 x found.2 in
      let above = ap (λ (y : Reverse). reverse_order y r.start r.owner r.off) (sym found.3) ∙ next.above found.0 x found.2 in
      let before = apart_is_before (reverse_span x) (reverse_span r) (starts_below x r above) (run_of r next.valid).1
      (apart_on x r (same_line x r good next.valid found.4.0) agrees) in
      omega (arith, before, found.4.1))
      (holds.only (ledger_line r)),
)

pub ends_none : (ends : List ℕ) → ends ≡ replicate LINES 0 → HoldsEnds ends []
ends_none ends is = record {
  long = ap length is ∙ length-replicate {A = ℕ} LINES 0;
  above = λ k d within. absurd (omega (arith, within));
  only = λ line. inl (ap (λ (xs : List ℕ). get_or xs line 0) is ∙ zero_at LINES line);
}

pub ends_more : (noted : List Reverse) (ends now : List ℕ) (r : Reverse) (line end : ℕ) → HoldsEnds ends noted → IsNext reverse_form noted r
    → AgreesWithAll reverse_form noted r → line ≡ ledger_line r → end ≡ end_of (reverse_span r) → line < LINES → now ≡ slice_set ends line end
    → HoldsEnds now (noted ++ r ∷ [])
ends_more noted ends now r line end holds next agrees line_is end_is within is =
    let long : length (noted ++ r ∷ []) ≡ length noted + 1 = length-append noted (r ∷ []) in
    let here : get_or now line 0 ≡ end =
    ap (λ (xs : List ℕ). get_or xs line 0) is ∙ get_or-set_same ends line end 0 (omega (arith, within, holds.long)) in
    let other : (i : ℕ) → (i ≡ line → ⊥) → get_or now i 0 ≡ get_or ends i 0 = λ i apart.
    ap (λ (xs : List ℕ). get_or xs i 0) is ∙ get_or-set_other ends line i end 0 apart in
    let before : get_or ends (ledger_line r) 0 < r.start = (owned_agrees noted ends r holds next).1 agrees in
    let own : get_or now (ledger_line r) 0 ≡ end = ap (λ (i : ℕ). get_or now i 0) (sym line_is) ∙ here in
    let each : (x : Reverse) → end_of (reverse_span x) ≤ get_or ends (ledger_line x) 0 → end_of (reverse_span x) ≤ get_or now (ledger_line x) 0 = λ x fits. ⊎_elim
    (λ (same : ledger_line x ≡ line).
    let old : get_or ends (ledger_line x) 0 ≡ get_or ends (ledger_line r) 0 = ap (λ (i : ℕ). get_or ends i 0) (same ∙ line_is) in
    let new : get_or now (ledger_line x) 0 ≡ end = ap (λ (i : ℕ). get_or now i 0) same ∙ here in
    omega (arith, fits, old, new, before, end_is))
    (λ (apart : ledger_line x ≡ line → ⊥). omega (arith, fits, other (ledger_line x) apart))
    (cases_eq (ledger_line x) line) in
    record {
      long = ap length is ∙ length-set ends line end ∙ holds.long;
      above = λ k d under. ⊎_elim
          (λ (noted_before : k < length noted).
          subst (λ (x : Reverse). end_of (reverse_span x) ≤ get_or now (ledger_line x) 0) (sym (get_or_append_left noted (r ∷ []) d k noted_before))
          (each (get_or noted k d) (holds.above k d noted_before)))
          (λ (at : length noted ≤ k).
          let last : k ≡ length noted = omega (arith, at, under, long) in
          let is_r : get_or (noted ++ r ∷ []) k d ≡ r = ap (λ (i : ℕ). get_or (noted ++ r ∷ []) i d) last ∙ get_or-append_seam noted r [] d in
          subst (λ (x : Reverse). end_of (reverse_span x) ≤ get_or now (ledger_line x) 0) (sym is_r) (omega (arith, own, end_is)))
          (cases_lt k (length noted));
      only = λ i. ⊎_elim
          (λ (same : i ≡ line).
          inr (length noted, r, omega (arith, long), get_or-append_seam noted r [] r, (sym line_is ∙ sym same, sym end_is ∙ sym here ∙ ap (λ (j : ℕ). get_or now j 0) (sym same))))
          (λ (apart : i ≡ line → ⊥). ⊎_elim
          (λ (none : get_or ends i 0 ≡ 0). inl (other i apart ∙ none))
          (λ (found : Any (λ (x : Reverse). (ledger_line x ≡ i) × (end_of (reverse_span x) ≡ get_or ends i 0)) noted).
          inr (
            found.0,
            found.1,
            omega (arith, found.2, long),
            get_or_append_left noted (r ∷ []) found.1 found.0 found.2 ∙ found.3,
            (found.4.0, found.4.1 ∙ sym (other i apart)),
          ))
          (holds.only i))
          (cases_eq i line);
    }
