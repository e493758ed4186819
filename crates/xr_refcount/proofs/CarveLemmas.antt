-- A run is taken out of the record that holds it: which records come in its place, and what becomes of the blocks.
use Rattle.std.proofs.Common.{◌≡◌, ◌≢◌, ◌⊎◌, ℕ, ◌+◌, ◌-◌, ◌<◌, ◌≤◌, true, false, List, refl, sym, ap, ◌∙◌, subst, inl, inr, ⊎_elim, arith}
use Rattle.std.proofs.lemmas.Bool.{cases_lt}
use Rattle.std.proofs.lemmas.Bool.Decides.{nat_tests}
use Rattle.std.specs.List.{Contains}
use Rattle.xr_block.specs.Tree.{AreRecords}
use Rattle.xr_change.specs.SetLaws.{agree_in}
use Rattle.xr_change.specs.Sets.{Gains, Loses, Swaps}
use Rattle.xr_kinds.specs.Reference.{is_reference, reference_form, reference_span}
use Rattle.xr_kinds.specs.ReferenceLaws.{is_reference_form}
use Rattle.xr_kinds.specs.Spans.{IsIn, end_of, span, touch}
use Rattle.xr_kinds.specs.declared.reference.Reference.{Reference}
use Rattle.xr_kinds.specs.declared.span.Span.{Span}
use Rattle.xr_refcount.specs.CountLaws.{in_cases, of_records, valid_in}
use Rattle.xr_refcount.specs.Marks.{IsHeldRun, SetsRun, TouchesOnly}
use Rattle.xr_refcount.proofs.RecordRuleLemmas.{sides}
use Rattle.xr_refcount.proofs.SetRunLemmas.{gained_run, lost_run, set_in, set_out, sets_run, shrunk_run, still_at}

-- what a record has in front of a run, and behind it
abbrev pub front_of : Reference → Span → Reference
front_of held run = record { start = held.start; len = run.start - held.start; count = held.count; staged = held.staged }

abbrev pub back_of : Reference → Span → Reference
back_of held run =
    record { start = run.start + run.len; len = held.start + held.len - (run.start + run.len); count = held.count; staged = held.staged }

same_span : (s t : Span) → s.start ≡ t.start → s.len ≡ t.len → s ≡ t
same_span s t start len i = record { start = start i; len = len i }

not_before : (run : Span) (n : ℕ) → run.start ≤ n → ¬ (IsIn run n) → end_of run ≤ n
not_before run n from out = ⊎_elim
    (λ (low : n < end_of run). absurd (out (record { from = from; below = low })))
    (λ (high : end_of run ≤ n). high)
    (cases_lt n (end_of run))

-- a part of a record agrees with what the record agrees with
part_agrees : (x held part : Reference) → is_reference x ≡ true → is_reference held ≡ true → part.count ≡ held.count → part.staged ≡ held.staged
    → held.start ≤ part.start → end_of (reference_span part) ≤ end_of (reference_span held) → 0 < part.len → reference_form.agree x held ≡ true
    → reference_form.agree x part ≡ true
part_agrees x held part good one count kind from until some agree = grind (arith, nat_tests, sides x held good one agree)

-- what lies outside of a record doesn't touch a run in its middle
no_touch : (x held : Reference) (run : Span) → (end_of (reference_span x) ≤ held.start) ⊎ (end_of (reference_span held) ≤ x.start)
    → 0 < run.start - held.start → 0 < held.start + held.len - (run.start + run.len) → touch (reference_span x) run ≡ true → ⊥
no_touch x held run out front back touches = grind (arith, nat_tests, out)

front_agrees : (held : Reference) (run : Span) → held.start ≤ run.start → 0 < run.len → reference_form.agree (front_of held run) (back_of held run) ≡ true
front_agrees held run from some = grind (arith, nat_tests)

module _ (xs : List Reference) (rules : AreRecords reference_form xs) (held : Reference) (run : Span) (is : IsHeldRun xs held run) where
  others_agree_held : (x : Reference) → Contains xs x → x ≢ held → reference_form.agree x held ≡ true
  others_agree_held x within other =
      ⊎_elim (λ same. absurd (other same)) (λ agree. agree) (agree_in reference_form is_reference_form xs rules x held within is.held)

  others_agree : (part : Reference) → part.count ≡ held.count → part.staged ≡ held.staged → held.start ≤ part.start
      → end_of (reference_span part) ≤ end_of (reference_span held) → 0 < part.len → (x : Reference) → Contains xs x → x ≢ held
      → reference_form.agree x part ≡ true
  others_agree part count kind from until some x within other =
      part_agrees x held part (valid_in xs rules x within) (valid_in xs rules held is.held) count kind from until some
      (others_agree_held x within other)

  pub front_fits : 0 < run.start - held.start → (x : Reference) → Contains xs x → x ≢ held → reference_form.agree x (front_of held run) ≡ true
  front_fits some = others_agree (front_of held run) refl refl (omega arith) (omega (arith, is.some, is.until, some)) some

  pub back_fits : 0 < held.start + held.len - (run.start + run.len) → (x : Reference) → Contains xs x → x ≢ held
      → reference_form.agree x (back_of held run) ≡ true
  back_fits some = others_agree (back_of held run) refl refl (omega (arith, is.from)) (omega (arith, some)) some

  module _ (ys : List Reference) (still : AreRecords reference_form ys) where
    -- the run is all of it
    pub nothing_stays : Loses (Contains xs) held (Contains ys) → run.start - held.start ≡ 0 → held.start + held.len - (run.start + run.len) ≡ 0
        → SetsRun xs run 1 false ys
    nothing_stays set none behind =
        subst (λ (s : Span). SetsRun xs s 1 false ys)
        (same_span (reference_span held) run (omega (arith, none, is.from)) (omega (arith, none, behind, is.from, is.until)))
        (lost_run xs ys rules still held is.held set)

    -- where the front comes in its place, all from the run on goes
    abbrev rest : Span
    rest = span run.start (held.start + held.len - run.start)

    front_left : Swaps (Contains xs) held (front_of held run) (Contains ys) → SetsRun xs rest 1 false ys
    front_left set =
        shrunk_run xs ys rules still held (front_of held run) is.held refl refl set rest
        (λ n within. ⊎_elim
        (λ (low : n < run.start). inl (record { from = within.from; below = omega (arith, low, within.from) }))
        (λ (high : run.start ≤ n). inr (record { from = high; below = omega (arith, within.below, high) }))
        (cases_lt n run.start))
        (λ n within. (record { from = within.from; below = omega (arith, within.from, within.below, is.from, is.until) }, (λ (inside : IsIn rest n). absurd (omega (arith, within.from, within.below, inside.from)))))
        (λ n within. record { from = omega (arith, is.from, within.from); below = omega (arith, within.from, within.below) })

    -- the front stays, and nothing is behind
    pub front_stays : Swaps (Contains xs) held (front_of held run) (Contains ys) → held.start + held.len - (run.start + run.len) ≡ 0
        → SetsRun xs run 1 false ys
    front_stays set none =
        subst (λ (s : Span). SetsRun xs s 1 false ys) (same_span rest run refl (omega (arith, none, is.from, is.until))) (front_left set)

    -- the back stays, and nothing is in front
    pub back_stays : Swaps (Contains xs) held (back_of held run) (Contains ys) → run.start - held.start ≡ 0 → SetsRun xs run 1 false ys
    back_stays set none =
        shrunk_run xs ys rules still held (back_of held run) is.held refl refl set run
        (λ n within. ⊎_elim
        (λ (low : n < end_of run). inr (record { from = omega (arith, within.from, none, is.from); below = low }))
        (λ (high : end_of run ≤ n). inl (record { from = high; below = omega (arith, within.below, high) }))
        (cases_lt n (end_of run)))
        (λ n within. (record { from = omega (arith, within.from, is.from); below = omega (arith, within.from, within.below) }, (λ (inside : IsIn run n). absurd (omega (arith, within.from, inside.below)))))
        (λ n within. record { from = omega (arith, is.from, within.from); below = omega (arith, is.until, within.below) })

    -- the front stays, and the back comes in as a record of its own
    module _ (set : Swaps (Contains xs) held (front_of held run) (Contains ys)) where
      pub back_comes : 0 < held.start + held.len - (run.start + run.len) → (x : Reference) → Contains ys x
          → reference_form.agree x (back_of held run) ≡ true
      back_comes some x within = ⊎_elim
          (λ (same : x ≡ front_of held run).
          subst (λ (z : Reference). reference_form.agree z (back_of held run) ≡ true) (sym same) (front_agrees held run is.from is.some))
          (λ (kept : (x ≢ held) × Contains xs x). back_fits some x kept.1 kept.0)
          ((set x).0 within)

      pub both_stay : (zs : List Reference) → AreRecords reference_form zs → Gains (Contains ys) (back_of held run) (Contains zs) → SetsRun xs run 1 false zs
      both_stay zs more gain =
          let back = back_of held run in
          let one = front_left set in
          let two = gained_run ys zs still more back gain in
          let before = of_records xs rules in
          sets_run xs run 1 false zs
          (λ n within.
          let gone = set_in xs rest 1 false ys one n (record { from = within.from; below = omega (arith, within.below, is.until, is.from, within.from) }) in
          still_at ys zs n 1 false gone (set_out ys (reference_span back) back.count back.staged zs two n
          (λ (inside : IsIn (reference_span back) n). absurd (omega (arith, inside.from, within.below)))))
          (λ n out. ⊎_elim
          (λ inside.
          let now = set_in ys (reference_span back) back.count back.staged zs two n inside.1 in
          let here = inside.1 in
          let was = before.told held n is.held (record { from = omega (arith, here.from, is.from); below = omega (arith, here.from, here.below) }) in
          record { owners = now.owners ∙ sym was.owners; kind = now.kind ∙ sym was.kind })
          (λ other.
          let away = set_out xs rest 1 false ys one n (λ (inside : IsIn rest n). other.1 (record {
            from = not_before run n inside.from out;
            below = omega (arith, inside.below, inside.from, is.from, not_before run n inside.from out);
          })) in
          still_at ys zs n _ _ away (set_out ys (reference_span back) back.count back.staged zs two n other.1))
          (in_cases (reference_span back) n))

      -- and nothing else touches the run
      pub only_rests : (zs : List Reference) → Gains (Contains ys) (back_of held run) (Contains zs) → 0 < run.start - held.start
          → 0 < held.start + held.len - (run.start + run.len) → TouchesOnly zs run held.count
      only_rests zs gain front back x within touches = ⊎_elim
          (λ (same : x ≡ back_of held run). ap (λ (z : Reference). z.count) same)
          (λ (old : Contains ys x). ⊎_elim
          (λ (same : x ≡ front_of held run). ap (λ (z : Reference). z.count) same)
          (λ (kept : (x ≢ held) × Contains xs x).
          let agree = others_agree_held x kept.1 kept.0 in
          absurd (no_touch x held run (sides x held (valid_in xs rules x kept.1) (valid_in xs rules held is.held) agree) front back touches))
          ((set x).0 old))
          ((gain x).0 within)
