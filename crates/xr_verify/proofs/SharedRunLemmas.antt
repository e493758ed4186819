-- Shared and staged runs that are held against the blocks of all before them and against the one before them alone.
use Rattle.std.proofs.Common.{◌≡◌, ◌↔◌, ℕ, ◌+◌, ◌^◌, ◌<◌, ◌≤◌, ◌&&◌, Bool, true, false, IfSome, Option, Some, None, List, [], length, get_or, refl, sym, ap, ◌∙◌, arith, ⊎_elim}
use Rattle.std.proofs.lemmas.Bool.{cases_eq, cases_lt, false_from_ne_true}
use Rattle.std.proofs.lemmas.Bool.Decides.{nat_tests}
use Rattle.std.specs.List.{last_or}
use Rattle.xr_kinds.specs.declared.reference.Reference.{Reference}
use Rattle.xr_kinds.specs.declared.span.Span.{Span}
use Rattle.xr_pool.specs.Bits.{has_bit}
use Rattle.xr_verify.specs.Ledger.{AgreesWithAll, IsNext}
use Rattle.xr_verify.specs.LedgerLaws.{below_from}
use Rattle.xr_kinds.specs.Reference.{first_word, is_reference, reference_form, reference_span, same_count}
use Rattle.xr_verify.specs.RunBits.{HoldsRuns}
use Rattle.xr_kinds.specs.SpanLaws.{group_run}
use Rattle.xr_kinds.specs.Spans.{IsIn, end_of, meet, touch}
use Rattle.xr_verify.proofs.LastLemmas.{none_last, some_last}

pub run_of : (x : Reference) → is_reference x ≡ true → (512 ≤ x.start) × (0 < x.len) × (x.start + x.len ≤ 2048)
run_of x good = group_run (reference_span x) (grind (arith, nat_tests))

apart_from : (x y : Reference) → reference_form.agree x y ≡ true → meet (reference_span x) (reference_span y) ≡ false
apart_from x y agrees = grind (arith, nat_tests)

agrees_if : (x r : Reference) → meet (reference_span x) (reference_span r) ≡ false → (same_count x r && touch (reference_span x) (reference_span r)) ≡ false
    → reference_form.agree x r ≡ true
agrees_if x r no_block no_touch = rw (no_block, no_touch) refl

meet_not : (x r : Span) (n : ℕ) → IsIn x n → r.start ≤ n → n < end_of r → meet x r ≡ false → ⊥
meet_not x r n is from below apart = let from_x = is.from in let below_x = is.below in grind (arith, nat_tests)

ends_of : (x r : Span) → meet x r ≡ true → (x.start < end_of r) × (r.start < end_of x) × (x.start < end_of x) × (r.start < end_of r)
ends_of x r is = (grind (arith, nat_tests), grind (arith, nat_tests), grind (arith, nat_tests), grind (arith, nat_tests))

meet_of : (x r : Span) → ((n : ℕ) → IsIn x n → r.start ≤ n → n < end_of r → ⊥) → meet x r ≡ false
meet_of x r none = false_from_ne_true (meet x r) (λ is.
    let ends = ends_of x r is in
    ⊎_elim
    (λ (before : x.start < r.start). none r.start (record { from = omega (arith, before); below = ends.1 }) (omega arith) ends.3)
    (λ (after : r.start ≤ x.start). none x.start (record { from = omega arith; below = ends.2 }) after ends.0)
    (cases_lt x.start r.start))

and_false : (a b : Bool) → b ≡ false → (a && b) ≡ false
and_false true b is = is
and_false false b is = refl

touch_not : (x y r : Span) → x.start < y.start → y.start < r.start → 0 < y.len → 0 < r.len → meet x y ≡ false → touch x r ≡ false
touch_not x y r one two some_y some_r apart = grind (arith, nat_tests)

staged_word : (x : Reference) → x.staged ≡ true → first_word x ≡ x.start + 2 ^ 31
staged_word x is = rw is refl

shared_word : (x : Reference) → x.staged ≡ false → first_word x ≡ x.start
shared_word x is = rw is refl

-- between two runs of one kind that touch there is none
no_touch : (x y r : Reference) (staged_x staged_y staged_r : Bool) → x.staged ≡ staged_x → y.staged ≡ staged_y → r.staged ≡ staged_r
    → is_reference x ≡ true → is_reference y ≡ true → is_reference r ≡ true → first_word x < first_word y → first_word y < first_word r
    → meet (reference_span x) (reference_span y) ≡ false → (same_count x r && touch (reference_span x) (reference_span r)) ≡ false
no_touch x y r true staged_y false is_x is_y is_r good_x good_y good_r one two apart = rw (is_x, is_r) refl
no_touch x y r false staged_y true is_x is_y is_r good_x good_y good_r one two apart = rw (is_x, is_r) refl
no_touch x y r true false true is_x is_y is_r good_x good_y good_r one two apart =
    absurd (omega (arith, one, staged_word x is_x, shared_word y is_y, run_of y good_y))
no_touch x y r false true false is_x is_y is_r good_x good_y good_r one two apart =
    absurd (omega (arith, two, staged_word y is_y, shared_word r is_r, run_of r good_r))
no_touch x y r true true true is_x is_y is_r good_x good_y good_r one two apart =
    and_false (same_count x r) (touch (reference_span x) (reference_span r))
    (touch_not (reference_span x) (reference_span y) (reference_span r) (omega (arith, one, staged_word x is_x, staged_word y is_y))
    (omega (arith, two, staged_word y is_y, staged_word r is_r)) (run_of y good_y).1 (run_of r good_r).1 apart)
no_touch x y r false false false is_x is_y is_r good_x good_y good_r one two apart =
    and_false (same_count x r) (touch (reference_span x) (reference_span r))
    (touch_not (reference_span x) (reference_span y) (reference_span r) (omega (arith, one, shared_word x is_x, shared_word y is_y))
    (omega (arith, two, shared_word y is_y, shared_word r is_r)) (run_of y good_y).1 (run_of r good_r).1 apart)

-- so a run agrees with all where no bit of it is set and it agrees with the last
pub shared_agrees : (noted : List Reference) (bits : List ℕ) (last : Option Reference) (r : Reference) → HoldsRuns reference_span bits noted → last ≡ last_or None noted
    → IsNext reference_form noted r
    → (IfSome last (λ x. reference_form.agree x r ≡ true) × ((n : ℕ) → r.start ≤ n → n < r.start + r.len → has_bit bits n ≡ false))
    ↔ AgreesWithAll reference_form noted r
shared_agrees noted bits None r holds last_is next =
    let none : noted ≡ [] = none_last noted (sym last_is) in (
      λ both k d within. absurd (omega (arith, within, ap length none)),
      λ all. (tt, λ n from to. false_from_ne_true (has_bit bits n) (λ set. let found = holds.only n set in absurd (omega (arith, found.2, ap length none)))),
    )
shared_agrees noted bits (Some last) r holds last_is next = (
  λ both k d within.
      let found = some_last noted last d (sym last_is) in
      let end : ℕ = found.0 in
      let at_last : reference_form.agree (get_or noted end d) r ≡ true = ap (λ (x : Reference). reference_form.agree x r) found.2 ∙ both.0 in
      ⊎_elim
      (λ (same : k ≡ end). ap (λ (i : ℕ). reference_form.agree (get_or noted i d) r) same ∙ at_last)
      (λ (other : k ≡ end → ⊥).
      let x = get_or noted k d in
      let y = get_or noted end d in
      let below : end < length noted = omega (arith, found.1) in
      let before : k < end = omega (arith, found.1, within, other) in
      let clear = meet_of (reference_span x) (reference_span r) (λ n is from to.
      let lie : true ≡ false = sym (holds.set k n d within is) ∙ both.1 n from to in absurd cc) in
      agrees_if x r clear
      (no_touch x y r x.staged y.staged r.staged refl refl refl (next.passed.valid k d within) (next.passed.valid end d below) next.valid
      (below_from (first_word x) (first_word y) (next.passed.ascend k end d before below)) (below_from (first_word y) (first_word r) (next.above end d below))
      (apart_from x y (next.passed.agree k end d before below))))
      (cases_eq k end),
  λ all.
      let found = some_last noted last last (sym last_is) in (
        ap (λ (x : Reference). reference_form.agree x r) (sym found.2) ∙ all found.0 last (omega (arith, found.1)),
        λ n from to. false_from_ne_true (has_bit bits n) (λ set.
            let held = holds.only n set in
            let agrees : reference_form.agree held.1 r ≡ true = ap (λ (x : Reference). reference_form.agree x r) (sym held.3) ∙ all held.0 held.1 held.2 in
            meet_not (reference_span held.1) (reference_span r) n held.4 from to (apart_from held.1 r agrees)),
      ),
)
