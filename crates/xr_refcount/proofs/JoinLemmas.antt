-- Records that touch: which of those beside a new one it becomes one with, and what becomes of the blocks.
use Rattle.std.proofs.Common.{◌≡◌, ◌≢◌, ◌⊎◌, ℕ, ◌+◌, ◌-◌, ◌<◌, ◌≤◌, true, false, min, List, Option, Some, None, IsNone, IfSome, refl, sym, ap, ◌∙◌, inl, inr, ⊎_elim, arith}
use Rattle.std.proofs.lemmas.Bool.{cases_lt}
use Rattle.std.proofs.lemmas.Bool.Decides.{nat_tests}
use Rattle.std.specs.List.{Contains}
use Rattle.xr_block.specs.Tree.{AreRecords}
use Rattle.xr_change.specs.SetLaws.{agree_in}
use Rattle.xr_change.specs.Sets.{Loses, Swaps}
use Rattle.xr_kinds.specs.Reference.{is_reference, reference_form, reference_span, same_count}
use Rattle.xr_kinds.specs.ReferenceLaws.{is_reference_form}
use Rattle.xr_kinds.specs.SpanLaws.{group_run}
use Rattle.xr_kinds.specs.Spans.{IsIn, end_of, meet}
use Rattle.xr_kinds.specs.declared.reference.Reference.{Reference}
use Rattle.xr_refcount.specs.CountLaws.{in_cases, of_records, valid_in, valid_run}
use Rattle.xr_refcount.specs.Marks.{IsAlikeAt, IsBehind, IsInFront, MayMerge, MeetsNone, NoneBehind, NoneInFront, SetsRun, joins}
use Rattle.xr_refcount.proofs.RecordRuleLemmas.{sides}
use Rattle.xr_refcount.proofs.SetRunLemmas.{grown_run, lost_run, set_in, set_out, sets_run, still_at}

-- a record of the same count and kind that holds the block in front of a new one, or the one behind it
pub joins_in_front : (x new : Reference) → is_reference x ≡ true → is_reference new ≡ true → meet (reference_span x) (reference_span new) ≡ false
    → IsIn (reference_span x) (new.start - 1) → same_count x new ≡ true → (joins x new ≡ true) × (end_of (reference_span x) ≡ new.start)
joins_in_front x new one other apart within same =
    let some = group_run (reference_span x) (valid_run x one) in
    let more = group_run (reference_span new) (valid_run new other) in
    let ends : end_of (reference_span x) ≡ new.start = grind (arith, nat_tests, within, some, more) in
    (grind (arith, nat_tests, ends), ends)

pub joins_behind : (x new : Reference) → is_reference x ≡ true → is_reference new ≡ true → meet (reference_span x) (reference_span new) ≡ false
    → IsIn (reference_span x) (end_of (reference_span new)) → same_count x new ≡ true → (joins x new ≡ true) × (x.start ≡ end_of (reference_span new))
joins_behind x new one other apart within same =
    let some = group_run (reference_span x) (valid_run x one) in
    let more = group_run (reference_span new) (valid_run new other) in
    let starts : x.start ≡ end_of (reference_span new) = grind (arith, nat_tests, within, some, more) in
    (grind (arith, nat_tests, starts), starts)

joins_or_agrees : (x new : Reference) → meet (reference_span x) (reference_span new) ≡ false → (joins x new ≡ true) ⊎ (reference_form.agree x new ≡ true)
joins_or_agrees x new apart = grind arith

touch_sides : (x new : Reference) → joins x new ≡ true → (end_of (reference_span x) ≡ new.start) ⊎ (x.start ≡ end_of (reference_span new))
touch_sides x new joined = grind (arith, nat_tests)

pub joins_labels : (x y : Reference) → joins x y ≡ true → (x.count ≡ y.count) × (x.staged ≡ y.staged)
joins_labels x y touches = (grind (arith, nat_tests), grind (arith, nat_tests))

joins_if : (x y : Reference) → x.count ≡ y.count → x.staged ≡ y.staged → (end_of (reference_span x) ≡ y.start) ⊎ (x.start ≡ end_of (reference_span y))
    → joins x y ≡ true
joins_if x y count kind at = grind (arith, nat_tests)

not_joined : (x y : Reference) → reference_form.agree x y ≡ true → joins x y ≡ true → ⊥
not_joined x y agree touches = grind arith

pub agrees_if : (x y : Reference) → meet (reference_span x) (reference_span y) ≡ false → (joins x y ≡ true → ⊥) → reference_form.agree x y ≡ true
agrees_if x y apart other = grind arith

away_if : (x y : Reference) → (end_of (reference_span x) ≤ y.start) ⊎ (end_of (reference_span y) ≤ x.start) → meet (reference_span x) (reference_span y) ≡ false
away_if x y out = grind (arith, nat_tests)

apart_sides : (x y : Reference) → is_reference x ≡ true → is_reference y ≡ true → meet (reference_span x) (reference_span y) ≡ false
    → (end_of (reference_span x) ≤ y.start) ⊎ (end_of (reference_span y) ≤ x.start)
apart_sides x y one other apart = grind (arith, nat_tests)

-- what agrees with two records that touch agrees with the one that they make
two_agree : (x a b z : Reference) → is_reference x ≡ true → is_reference a ≡ true → is_reference b ≡ true → end_of (reference_span a) ≡ b.start
    → z.start ≡ a.start → end_of (reference_span z) ≡ end_of (reference_span b) → (z.count ≡ a.count) × (z.staged ≡ a.staged)
    → (z.count ≡ b.count) × (z.staged ≡ b.staged) → reference_form.agree x a ≡ true → reference_form.agree x b ≡ true
    → reference_form.agree x z ≡ true
two_agree x a b z good one two meets starts ends first second away apart =
    let some = group_run (reference_span x) (valid_run x good) in
    let out = sides x a good one away in
    let beyond = sides x b good two apart in
    agrees_if x z (away_if x z (grind (arith, out, beyond, some))) (λ touches.
    let label = joins_labels x z touches in
    ⊎_elim
    (λ (front : end_of (reference_span x) ≡ z.start).
    not_joined x a away (joins_if x a (label.0 ∙ first.0) (label.1 ∙ first.1) (inl (front ∙ starts))))
    (λ (back : x.start ≡ end_of (reference_span z)).
    not_joined x b apart (joins_if x b (label.0 ∙ second.0) (label.1 ∙ second.1) (inr (back ∙ ends))))
    (touch_sides x z touches))

-- the record that two make
abbrev pub joined : Reference → Reference → ℕ → Reference
joined new other start = record { start = start; len = new.len + other.len; count = new.count; staged = new.staged }

joined_good : (new next : Reference) → is_reference new ≡ true → is_reference next ≡ true → next.start ≡ end_of (reference_span new)
    → is_reference (joined new next new.start) ≡ true
joined_good new next good one starts = grind (arith, nat_tests)

joined_agrees : (x new other : Reference) (start : ℕ) → start ≡ min new.start other.start → is_reference x ≡ true → is_reference new ≡ true
    → is_reference other ≡ true → joins other new ≡ true → reference_form.agree x other ≡ true → reference_form.agree x new ≡ true
    → reference_form.agree x (joined new other start) ≡ true
joined_agrees x new other start lower good one two touches away apart =
    let both = joined new other start in
    let label = joins_labels other new touches in
    ⊎_elim
    (λ (front : end_of (reference_span other) ≡ new.start).
    two_agree x other new both good two one front (grind (arith, nat_tests)) (grind (arith, nat_tests)) (sym label.0, sym label.1) (refl, refl) away apart)
    (λ (back : other.start ≡ end_of (reference_span new)).
    two_agree x new other both good one two (sym back) (grind (arith, nat_tests)) (grind (arith, nat_tests)) (refl, refl) (sym label.0, sym label.1) apart away)
    (touch_sides other new touches)

module _ (xs : List Reference) (rules : AreRecords reference_form xs) (new : Reference) where
  -- with one other
  module _ (other : Reference) (may : MayMerge xs new (Some other)) (start : ℕ) (lower : start ≡ min new.start other.start) where
    pub joined_fits : (x : Reference) → Contains xs x → x ≢ other → reference_form.agree x (joined new other start) ≡ true
    joined_fits x held differs =
        let beside = may.held in
        joined_agrees x new other start lower (valid_in xs rules x held) may.good (valid_in xs rules other beside.0) beside.1
        (⊎_elim (λ same. absurd (differs same)) (λ agree. agree) (agree_in reference_form is_reference_form xs rules x other held beside.0))
        (⊎_elim (λ (same : Some other ≡ Some x). let is : other ≡ x = cc in absurd (differs (sym is))) (λ agree. agree) (may.only x held))

    pub joined_run : (ys : List Reference) → AreRecords reference_form ys → Swaps (Contains xs) other (joined new other start) (Contains ys)
        → SetsRun xs (reference_span new) new.count new.staged ys
    joined_run ys still set =
        let beside = may.held in
        let both = joined new other start in
        let at = touch_sides other new beside.1 in
        let label = joins_labels other new beside.1 in
        grown_run xs ys rules still other both beside.0 (sym label.0) (sym label.1) set (reference_span new)
        (λ n within. ⊎_elim
        (λ (front : end_of (reference_span other) ≡ new.start). ⊎_elim
        (λ (low : n < new.start). inl (record { from = grind (arith, nat_tests, within); below = omega (arith, low, front) }))
        (λ (high : new.start ≤ n). inr (record { from = high; below = grind (arith, nat_tests, within) }))
        (cases_lt n new.start))
        (λ (back : other.start ≡ end_of (reference_span new)). ⊎_elim
        (λ (low : n < other.start). inr (record { from = grind (arith, nat_tests, within); below = omega (arith, low, back) }))
        (λ (high : other.start ≤ n). inl (record { from = high; below = grind (arith, nat_tests, within) }))
        (cases_lt n other.start))
        at)
        (λ n within. record { from = grind (arith, nat_tests, within, at); below = grind (arith, nat_tests, within, at) })
        (λ n within. record { from = grind (arith, nat_tests, within, at); below = grind (arith, nat_tests, within, at) })

  module _ (good : is_reference new ≡ true) (fits : MeetsNone xs (reference_span new)) where
    none_in_front : NoneInFront xs new → (x : Reference) → Contains xs x → joins x new ≡ true
        → x.start ≡ end_of (reference_span new)
    none_in_front none x held touches = ⊎_elim
        (λ (ends : end_of (reference_span x) ≡ new.start).
        let some = group_run (reference_span x) (valid_run x (valid_in xs rules x held)) in absurd (omega (arith, none x held touches, ends, some.1)))
        (λ starts. starts)
        (touch_sides x new touches)

    none_behind : NoneBehind xs new → (x : Reference) → Contains xs x → joins x new ≡ true
        → end_of (reference_span x) ≡ new.start
    none_behind none x held touches = ⊎_elim
        (λ ends. ends)
        (λ (starts : x.start ≡ end_of (reference_span new)).
        let some = group_run (reference_span new) (valid_run new good) in absurd (omega (arith, none x held touches, starts, some.1)))
        (touch_sides x new touches)

    -- what is found beside it
    pub found_in_front : (found : Option Reference) → IfSome found (IsAlikeAt xs (new.start - 1) new)
        → IfSome found (IsInFront xs new)
    found_in_front None found = tt
    found_in_front (Some x) found =
        let beside = joins_in_front x new (valid_in xs rules x found.0) good (fits x found.0) found.1 found.2 in (found.0, beside.0, beside.1)

    pub found_behind : (found : Option Reference) → IfSome found (IsAlikeAt xs (end_of (reference_span new)) new)
        → IfSome found (IsBehind xs new)
    found_behind None found = tt
    found_behind (Some x) found =
        let beside = joins_behind x new (valid_in xs rules x found.0) good (fits x found.0) found.1 found.2 in (found.0, beside.0, beside.1)

    -- only the one in front
    pub joins_left : (left : Reference) → IsInFront xs new left → NoneBehind xs new → MayMerge xs new (Some left)
    joins_left left front none = record {
      good = good;
      held = (front.0, front.1);
      fits = fits;
      only = λ x other. ⊎_elim
          (λ (joins_too : joins x new ≡ true).
          let ends_too = none_behind none x other joins_too in
          let some = group_run (reference_span x) (valid_run x (valid_in xs rules x other)) in
          let some_left = group_run (reference_span left) (valid_run left (valid_in xs rules left front.0)) in
          let known = of_records xs rules in
          inl (ap Some (known.alone left x (new.start - 1) front.0 other (record { from = omega arith; below = omega arith })
          (record { from = omega (arith, some.1, ends_too); below = omega (arith, some.1, ends_too) }))))
          (λ agree. inr agree)
          (joins_or_agrees x new (fits x other));
    }

    -- only the one behind, if there is one
    pub joins_right : (right : Option Reference) → NoneInFront xs new
        → (IsNone right → NoneBehind xs new)
        → IfSome right (IsBehind xs new) → MayMerge xs new right
    joins_right None left none found = record {
      good = good;
      held = tt;
      fits = fits;
      only = λ x held. ⊎_elim
          (λ (touches : joins x new ≡ true).
          let some = group_run (reference_span new) (valid_run new good) in
          absurd (omega (arith, none_in_front left x held touches, none refl x held touches, some.1)))
          (λ agree. inr agree)
          (joins_or_agrees x new (fits x held));
    }
    joins_right (Some r) left none found = record {
      good = good;
      held = (found.0, found.1);
      fits = fits;
      only = λ x held. ⊎_elim
          (λ (touches : joins x new ≡ true).
          let starts = none_in_front left x held touches in
          let some = group_run (reference_span x) (valid_run x (valid_in xs rules x held)) in
          let some_right = group_run (reference_span r) (valid_run r (valid_in xs rules r found.0)) in
          let known = of_records xs rules in
          inl (ap Some (known.alone r x x.start found.0 held (record { from = omega (arith, found.2, starts); below = omega (arith, found.2, starts, some_right.1) })
          (record { from = omega arith; below = omega (arith, some.1) }))))
          (λ agree. inr agree)
          (joins_or_agrees x new (fits x held));
    }

-- the one behind is taken out, and comes back as one with the new one
module _ (xs ys : List Reference) (rules : AreRecords reference_form xs) (still : AreRecords reference_form ys) (new left next : Reference) (good : is_reference new ≡ true) (fits : MeetsNone xs (reference_span new)) (front : IsInFront xs new left) (behind : IsBehind xs new next) (set : Loses (Contains xs) next (Contains ys)) where
  abbrev Both : Reference
  Both = joined new next new.start

  agrees : (x : Reference) → Contains xs x → x ≢ next → reference_form.agree x next ≡ true
  agrees x within differs =
      ⊎_elim (λ same. absurd (differs same)) (λ agree. agree) (agree_in reference_form is_reference_form xs rules x next within behind.0)

  both_good : is_reference Both ≡ true
  both_good = joined_good new next good (valid_in xs rules next behind.0) behind.2

  both_fits : (x : Reference) → Contains ys x → meet (reference_span x) (reference_span Both) ≡ false
  both_fits x within =
      let kept = (set x).0 within in
      let valid = valid_in xs rules x kept.1 in
      let some = group_run (reference_span x) (valid_run x valid) in
      let one = sides x next valid (valid_in xs rules next behind.0) (agrees x kept.1 kept.0) in
      let two = apart_sides x new valid good (fits x kept.1) in
      away_if x Both (grind (arith, some, one, two, behind.2))

  pub joins_both : MayMerge ys Both (Some left)
  joins_both =
      let label = joins_labels left new front.1 in
      let label_next = joins_labels next new behind.1 in
      let some = group_run (reference_span new) (valid_run new good) in
      joins_left ys still Both both_good both_fits left (
        (set left).1 (
          (λ (same : left ≡ next).
              let first = ap (λ (z : Reference). z.start) same in absurd (omega (arith, first, front.2, behind.2, some.1))),
          front.0,
        ),
        joins_if left Both label.0 label.1 (inl front.2),
        front.2,
      )
      (λ x within joined_too. ⊎_elim
      (λ (before : end_of (reference_span x) ≡ new.start). omega (arith, before))
      (λ (back : x.start ≡ end_of (reference_span Both)).
      let mine = joins_labels x Both joined_too in
      let kept = (set x).0 within in
      absurd (not_joined x next (agrees x kept.1 kept.0)
      (joins_if x next (mine.0 ∙ sym label_next.0) (mine.1 ∙ sym label_next.1) (inr (omega (arith, back, behind.2))))))
      (touch_sides x Both joined_too))

  pub both_run : (zs : List Reference) → SetsRun ys (reference_span Both) new.count new.staged zs → SetsRun xs (reference_span new) new.count new.staged zs
  both_run zs more =
      let one = lost_run xs ys rules still next behind.0 set in
      sets_run xs (reference_span new) new.count new.staged zs
      (λ n within. set_in ys (reference_span Both) new.count new.staged zs more n (record { from = within.from; below = omega (arith, within.below) }))
      (λ n out. ⊎_elim
      (λ inside.
      let here = inside.1 in
      let label = joins_labels next new behind.1 in
      let now = set_in ys (reference_span Both) new.count new.staged zs more n
      (record { from = omega (arith, here.from, behind.2); below = omega (arith, here.below, behind.2) }) in
      let known = of_records xs rules in
      let was = known.told next n behind.0 here in
      record { owners = now.owners ∙ sym label.0 ∙ sym was.owners; kind = now.kind ∙ sym label.1 ∙ sym was.kind })
      (λ beyond.
      let away = set_out xs (reference_span next) 1 false ys one n beyond.1 in
      still_at ys zs n _ _ away (set_out ys (reference_span Both) new.count new.staged zs more n (λ (inside : IsIn (reference_span Both) n). ⊎_elim
      (λ (low : n < next.start). out (record { from = inside.from; below = omega (arith, low, behind.2) }))
      (λ (high : next.start ≤ n). beyond.1 (record { from = high; below = omega (arith, inside.below, behind.2) }))
      (cases_lt n next.start))))
      (in_cases (reference_span next) n))
