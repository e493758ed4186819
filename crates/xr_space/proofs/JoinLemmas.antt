-- Runs that touch: the one that two of them make, and which free runs touch a run that is given back.
use Rattle.std.proofs.Common.{◌≡◌, ◌≢◌, ◌⊎◌, ◌↔◌, ℕ, ◌+◌, ◌<◌, ◌≤◌, true, min, Option, Some, None, IfSome, IsNone, refl, ap, inl, inr, ⊎_elim, arith}
use Rattle.std.proofs.lemmas.Bool.Decides.{nat_tests}
use Rattle.xr_kinds.specs.declared.span.Span.{Span}
use Rattle.xr_kinds.specs.SpanLaws.{group_run}
use Rattle.xr_kinds.specs.Spans.{IsIn, apart, end_of, is_group_run, span, touch}
use Rattle.xr_space.proofs.FreeSetLemmas.{AreRuns, Holds, back_with, in_cases, lost}
use Rattle.xr_change.specs.Sets.{Loses}
use Rattle.xr_space.specs.Space.{IsLoose}

-- two runs of a group have no block in common and don't touch, so there is a block between them
between : (x run : Span) → is_group_run x ≡ true → is_group_run run ≡ true → ((n : ℕ) → IsIn run n → ¬ (IsIn x n)) → (touch x run ≡ true → ⊥) → apart x run ≡ true
between x run good_x good_run taken alone =
    let one = group_run x good_x in
    let other = group_run run good_run in
    let first : x.start ≤ run.start → run.start < end_of x → ⊥ = λ from below.
    taken run.start (record { from = omega arith; below = omega (arith, other.1) }) (record { from = from; below = below }) in
    let second : run.start ≤ x.start → x.start < end_of run → ⊥ = λ from below.
    taken x.start (record { from = from; below = below }) (record { from = omega arith; below = omega (arith, one.1) }) in
    grind (arith, nat_tests, first, second, alone)

-- a part of what stands apart does so too
pub part_fits : (x whole part : Span) → apart x whole ≡ true → whole.start ≤ part.start → end_of part ≤ end_of whole → apart x part ≡ true
part_fits x whole part away from below = grind (arith, nat_tests)

-- a loose run that no free run touches stands apart from all
pub alone_fits : (free : Span → Type 0) (run : Span) → AreRuns free → IsLoose free run None → (x : Span) → free x → apart x run ≡ true
alone_fits free run runs loose x held =
    between x run (runs.good x held) loose.good (λ n within. loose.taken n x within held)
    (λ touches. let lie : None ≡ Some x = loose.only x held touches in absurd cc)

-- a run as one with another that touches it
module _ (run other : Span) (start : ℕ) (lower : start ≡ min run.start other.start) (touches : touch other run ≡ true) where
  abbrev Joined : Span
  Joined = span start (run.len + other.len)

  pub joined_each : (n : ℕ) → IsIn Joined n ↔ (IsIn other n ⊎ IsIn run n)
  joined_each n = (
    (λ within. ⊎_elim
        (λ (one : IsIn other n). inl one)
        (λ (out : ¬ (IsIn other n)).
        let away : other.start ≤ n → n < end_of other → ⊥ = λ from below. out (record { from = from; below = below }) in
        inr (record { from = grind (arith, nat_tests, within); below = grind (arith, nat_tests, within) }))
        (in_cases other n)),
    (λ known. ⊎_elim
        (λ (one : IsIn other n). record { from = grind (arith, nat_tests, one); below = grind (arith, nat_tests, one) })
        (λ (one : IsIn run n). record { from = grind (arith, nat_tests, one); below = grind (arith, nat_tests, one) })
        known),
  )

  apart_joined : (x : Span) → apart x other ≡ true → apart x run ≡ true → apart x Joined ≡ true
  apart_joined x one more = grind (arith, nat_tests)

-- a loose run as one with the free run that touches it stands apart from the others
pub joined_fits : (free : Span → Type 0) (run other : Span) (start : ℕ) → start ≡ min run.start other.start → AreRuns free → IsLoose free run (Some other)
    → (x : Span) → free x → x ≢ other → apart x (span start (run.len + other.len)) ≡ true
joined_fits free run other start lower runs loose x held differs =
    let beside = loose.held in
    apart_joined run other start lower beside.1 x
    (⊎_elim (λ (same : x ≡ other). absurd (differs same)) (λ (away : apart x other ≡ true). away) (runs.away x other held beside.0))
    (between x run (runs.good x held) loose.good (λ n within. loose.taken n x within held)
    (λ touches. let same : Some other ≡ Some x = loose.only x held touches in let is : x ≡ other = cc in differs is))

-- runs that end, or begin, at the same place
same_end : (free : Span → Type 0) (x y : Span) → AreRuns free → free x → free y → end_of x ≡ end_of y → x ≡ y
same_end free x y runs one other ends = grind (arith, nat_tests, runs.away x y one other)

pub same_start : (free : Span → Type 0) (x y : Span) → AreRuns free → free x → free y → x.start ≡ y.start → x ≡ y
same_start free x y runs one other starts = grind (arith, nat_tests, runs.away x y one other)

-- nothing ends where the run begins
pub loose_right : (free : Span → Type 0) (run : Span) (right : Option Span) → AreRuns free → is_group_run run ≡ true
    → ((n : ℕ) → IsIn run n → ¬ (Holds free n)) → ((x : Span) → free x → end_of x ≢ run.start)
    → (IsNone right → (x : Span) → free x → x.start ≢ end_of run) → IfSome right (λ x. free x × (x.start ≡ end_of run)) → IsLoose free run right
loose_right free run None runs good taken left none some = record {
  good = good;
  taken = λ n x within held inside. taken n within (x, held, inside);
  held = tt;
  only = λ x held touches. absurd (grind (arith, nat_tests, left x held, none refl x held));
}
loose_right free run (Some r) runs good taken left none some = record {
  good = good;
  taken = λ n x within held inside. taken n within (x, held, inside);
  held = (some.0, grind (arith, nat_tests, some.1));
  only = λ x held touches. ap Some (same_start free r x runs some.0 held (grind (arith, nat_tests, some.1, left x held)));
}

-- nothing begins where it ends
pub loose_left : (free : Span → Type 0) (run l : Span) → AreRuns free → is_group_run run ≡ true
    → ((n : ℕ) (x : Span) → IsIn run n → free x → ¬ (IsIn x n)) → ((x : Span) → free x → x.start ≢ end_of run) → free l → end_of l ≡ run.start
    → IsLoose free run (Some l)
loose_left free run l runs good taken right held ends = record {
  good = good;
  taken = taken;
  held = (held, grind (arith, nat_tests));
  only = λ x within touches. ap Some (same_end free l x runs held within (grind (arith, nat_tests, right x within)));
}

-- the run after is taken out, and given back with the run
module _ (free less : Span → Type 0) (run l r : Span) (runs : AreRuns free) (still : AreRuns less) (good : is_group_run run ≡ true) (taken : (n : ℕ) → IsIn run n → ¬ (Holds free n)) (left : free l) (ends : end_of l ≡ run.start) (right : free r) (starts : r.start ≡ end_of run) (out : Loses free r less) where
  abbrev Both : Span
  Both = span run.start (run.len + r.len)

  each : (n : ℕ) → IsIn Both n ↔ (IsIn r n ⊎ IsIn run n)
  each = joined_each run r run.start (grind (arith, nat_tests)) (grind (arith, nat_tests))

  good_both : is_group_run Both ≡ true
  good_both = let other = runs.good r right in grind (arith, nat_tests)

  not_next : (x : Span) → less x → x.start ≢ end_of Both
  not_next x held = let kept = (out x).0 held in grind (arith, nat_tests, kept, runs.away x r kept.1 right)

  pub loose_both : IsLoose less Both (Some l)
  loose_both =
      loose_left less Both l still good_both
      (λ n x within held inside.
      let gone = (lost free less r runs right out n).0 (x, held, inside) in
      ⊎_elim (λ (next : IsIn r n). gone.1 next) (λ (mine : IsIn run n). taken n mine gone.0) ((each n).0 within))
      not_next ((out l).1 (grind (arith, nat_tests, group_run run good), left)) ends

  pub given_both : (all : Span → Type 0) (n : ℕ) → (Holds all n ↔ (Holds less n ⊎ IsIn Both n)) → Holds all n ↔ (Holds free n ⊎ IsIn run n)
  given_both all n joined =
      back_with (lost free less r runs right out n) joined (each n) (λ (next : IsIn r n). (r, right, next)) (in_cases r n)
