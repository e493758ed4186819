-- The one record that holds a block tells its count and kind, and counts and kinds of all blocks determine the records.
use Rattle.std.proofs.Common.{◌≡◌, ◌⊎◌, ℕ, zero, suc, ◌-◌, ◌<◌, ◌≤◌, ◌&&◌, Bool, true, false, not, List, [], ◌∷◌, refl, sym, ap, ◌∙◌, subst, inl, inr, ⊎_elim, arith}
use Rattle.std.proofs.lemmas.Bool.{cases_Bool, cases_lt}
use Rattle.std.proofs.lemmas.Bool.Decides.{nat_tests}
use Rattle.std.proofs.lemmas.List.Elements.{All-contains, Contains-append_right}
use Rattle.std.proofs.lemmas.List.Folds.{list_any_at, list_any_none}
use Rattle.std.specs.List.{All, Contains}
use Rattle.std.specs.declared.cmp.Ordering.TheVariants.{Less}
use Rattle.xr_block.specs.Tree.{AreRecords}
use Rattle.xr_change.specs.SetLaws.{agree_in}
use Rattle.xr_kinds.specs.Reference.{is_reference, reference_form, reference_span}
use Rattle.xr_kinds.specs.ReferenceLaws.{is_reference_form}
use Rattle.xr_kinds.specs.SpanLaws.{group_run}
use Rattle.xr_kinds.specs.Spans.{IsIn, end_of, is_group_run}
use Rattle.xr_kinds.specs.declared.reference.Reference.{Reference}
use Rattle.xr_kinds.specs.declared.span.Span.{Span}
use Rattle.xr_maps.specs.RunLaws.{same_sorted}
use Rattle.xr_refcount.specs.Counts.{AreCountsOfRecords, CountsAreOfRecords, CountsDetermineRecords, HaveSameCounts, IsCountedAs, IsUnrecorded, count_at, is_in_run, is_staged_at}

pub in_cases : (s : Span) (n : ℕ) → ((is_in_run s n ≡ true) × IsIn s n) ⊎ ((is_in_run s n ≡ false) × ¬ (IsIn s n))
in_cases s n = ⊎_elim
    (λ (test : is_in_run s n ≡ true). inl (test, record { from = grind (arith, nat_tests); below = grind (arith, nat_tests) }))
    (λ (not_in : is_in_run s n ≡ false). inr (not_in, λ (within : IsIn s n). absurd (grind (arith, nat_tests, within))))
    (cases_Bool (is_in_run s n))

first_in : {X : Type 0} (x : X) (xs : List X) → Contains (x ∷ xs) x
first_in x xs = (0, omega arith, refl)

later_in : {X : Type 0} (x : X) (xs : List X) (y : X) → Contains xs y → Contains (x ∷ xs) y
later_in x xs y = Contains-append_right (x ∷ []) xs y

member_cases : {X : Type 0} (x : X) (xs : List X) (y : X) → Contains (x ∷ xs) y → (x ≡ y) ⊎ Contains xs y
member_cases x xs y (zero, within, is) = inl is
member_cases x xs y (suc k, within, is) = inr (k, omega (arith, within), is)

-- the test that the count makes of a record
abbrev shares : ℕ → Reference → Bool
shares n r = not r.staged && is_in_run (reference_span r) n

shares_tells : (n : ℕ) (r : Reference) → shares n r ≡ true → (r.staged ≡ false) × IsIn (reference_span r) n
shares_tells n r test = (grind arith, record { from = grind (arith, nat_tests); below = grind (arith, nat_tests) })

shares_in : (n : ℕ) (r : Reference) → r.staged ≡ false → IsIn (reference_span r) n → shares n r ≡ true
shares_in n r kind within = grind (arith, nat_tests)

counted_here : (r : Reference) (rs : List Reference) (n : ℕ) → shares n r ≡ true → count_at (r ∷ rs) n ≡ r.count
unfolding count_at
counted_here r rs n test = rw test refl

counted_later : (r : Reference) (rs : List Reference) (n : ℕ) → shares n r ≡ false → count_at (r ∷ rs) n ≡ count_at rs n
unfolding count_at
counted_later r rs n other = rw other refl

count_shared : (xs : List Reference) (r : Reference) (n : ℕ) → ((s : Reference) → Contains xs s → IsIn (reference_span s) n → s ≡ r) → Contains xs r
    → shares n r ≡ true → count_at xs n ≡ r.count
count_shared [] r n one held test = absurd (omega (arith, held.1))
count_shared (x ∷ xs) r n one held test = ⊎_elim
    (λ (here : shares n x ≡ true).
    let tells = shares_tells n x here in
    counted_here x xs n here ∙ ap (λ (s : Reference). s.count) (one x (first_in x xs) tells.1))
    (λ (other : shares n x ≡ false). counted_later x xs n other ∙ ⊎_elim
    (λ (same : x ≡ r). let lie : shares n r ≡ false = subst (λ (s : Reference). shares n s ≡ false) same other in absurd cc)
    (λ (rest : Contains xs r). count_shared xs r n (λ s within. one s (later_in x xs s within)) rest test)
    (member_cases x xs r held))
    (cases_Bool (shares n x))

count_unshared : (xs : List Reference) (n : ℕ) → ((s : Reference) → Contains xs s → shares n s ≡ false) → count_at xs n ≡ 1
unfolding count_at
count_unshared [] n none = refl
count_unshared (x ∷ xs) n none =
    counted_later x xs n (none x (first_in x xs)) ∙ count_unshared xs n (λ s within. none s (later_in x xs s within))

all_in : (P : Reference → Type 0) (xs : List Reference) → ((x : Reference) → Contains xs x → P x) → All P xs
all_in P [] each k d within = absurd (omega (arith, within))
all_in P (x ∷ xs) each zero d within = each x (first_in x xs)
all_in P (x ∷ xs) each (suc k) d within = all_in P xs (λ y inside. each y (later_in x xs y inside)) k d (omega (arith, within))

-- and the one of staged blocks
abbrev stages : ℕ → Reference → Bool
stages n r = r.staged && is_in_run (reference_span r) n

stages_tells : (n : ℕ) (r : Reference) → stages n r ≡ true → (r.staged ≡ true) × IsIn (reference_span r) n
stages_tells n r test = (grind arith, record { from = grind (arith, nat_tests); below = grind (arith, nat_tests) })

stages_in : (n : ℕ) (r : Reference) → r.staged ≡ true → IsIn (reference_span r) n → stages n r ≡ true
stages_in n r kind within = grind (arith, nat_tests)

not_staged : (xs : List Reference) (n : ℕ) → ((s : Reference) → Contains xs s → stages n s ≡ false) → is_staged_at xs n ≡ false
not_staged xs n none = list_any_none (stages n) xs (all_in (λ (s : Reference). stages n s ≡ false) xs none)

staged_here : (xs : List Reference) (r : Reference) (n : ℕ) → Contains xs r → stages n r ≡ true → is_staged_at xs n ≡ true
staged_here xs r n held test =
    list_any_at (stages n) xs held.0 r held.1 (subst (λ (s : Reference). stages n s ≡ true) (sym held.2) test)

pub refuted : (b : Bool) → (b ≡ true → ⊥) → b ≡ false
refuted true other = absurd (other refl)
refuted false other = refl

not_both : (r s : Reference) (n : ℕ) → reference_form.agree r s ≡ true → IsIn (reference_span r) n → IsIn (reference_span s) n → ⊥
not_both r s n agree one other = grind (arith, nat_tests)

pub not_plain : (r : Reference) → is_reference r ≡ true → r.count ≡ 1 → r.staged ≡ false → ⊥
not_plain r good count kind = grind (arith, nat_tests)

pub staged_count : (r : Reference) → is_reference r ≡ true → r.staged ≡ true → r.count ≡ 1
staged_count r good kind = grind (arith, nat_tests)

pub valid_run : (r : Reference) → is_reference r ≡ true → is_group_run (reference_span r) ≡ true
valid_run r good = grind arith

-- a record with the count and the kind of another holds neither the block in front of it nor the one behind it
never_in_front : (x r : Reference) → is_reference x ≡ true → is_reference r ≡ true → IsIn (reference_span x) (r.start - 1) → x.count ≡ r.count → x.staged ≡ r.staged
    → (x ≡ r) ⊎ (reference_form.agree x r ≡ true) → ⊥
never_in_front x r one other within count kind cases =
    let some = group_run (reference_span r) (valid_run r other) in
    ⊎_elim
    (λ (same : x ≡ r). let start = ap (λ (y : Reference). y.start) same in absurd (omega (arith, within.from, some.0)))
    (λ (agree : reference_form.agree x r ≡ true). grind (arith, nat_tests, within, some))
    cases

never_behind : (x r : Reference) → is_reference x ≡ true → is_reference r ≡ true → IsIn (reference_span x) (end_of (reference_span r)) → x.count ≡ r.count
    → x.staged ≡ r.staged → (x ≡ r) ⊎ (reference_form.agree x r ≡ true) → ⊥
never_behind x r one other within count kind cases =
    let some = group_run (reference_span x) (valid_run x one) in
    ⊎_elim
    (λ (same : x ≡ r). let end = ap (λ (y : Reference). end_of (reference_span y)) same in absurd (omega (arith, within.below)))
    (λ (agree : reference_form.agree x r ≡ true). grind (arith, nat_tests, within, some))
    cases

not_below : (x : Reference) → reference_form.order x x ≡ Less → ⊥
not_below x less = grind (arith, nat_tests)

-- a record that holds a block, with the count and the kind of another one
pub record IsHolder (xs : List Reference) (n : ℕ) (r x : Reference) : Type 0 where
  pub held : Contains xs x
  pub within : IsIn (reference_span x) n
  pub count : x.count ≡ r.count
  pub kind : x.staged ≡ r.staged

-- of any records
pub holder_cases : (xs : List Reference) (n : ℕ) → ((r : Reference) × Contains xs r × IsIn (reference_span r) n) ⊎ IsUnrecorded xs n
holder_cases [] n = inr (λ r held. absurd (omega (arith, held.1)))
holder_cases (x ∷ xs) n = ⊎_elim
    (λ here. inl (x, first_in x xs, here.1))
    (λ other. ⊎_elim
    (λ later. inl (later.0, later_in x xs later.0 later.1, later.2))
    (λ (none : IsUnrecorded xs n). inr (λ r held within. ⊎_elim
    (λ (same : x ≡ r). other.1 (subst (λ (s : Reference). IsIn (reference_span s) n) (sym same) within))
    (λ (rest : Contains xs r). none r rest within)
    (member_cases x xs r held)))
    (holder_cases xs n))
    (in_cases (reference_span x) n)

module _ (xs : List Reference) (rules : AreRecords reference_form xs) where
  pub valid_in : (r : Reference) → Contains xs r → is_reference r ≡ true
  valid_in r held = All-contains (λ (s : Reference). reference_form.is_valid s ≡ true) xs r rules.valid held

  one_holder : (r s : Reference) (n : ℕ) → Contains xs r → Contains xs s → IsIn (reference_span r) n → IsIn (reference_span s) n → r ≡ s
  one_holder r s n one other in_one in_other = ⊎_elim
      (λ (same : r ≡ s). same)
      (λ (agree : reference_form.agree r s ≡ true). absurd (not_both r s n agree in_one in_other))
      (agree_in reference_form is_reference_form xs rules r s one other)

  told : (r : Reference) (n : ℕ) → Contains xs r → IsIn (reference_span r) n → IsCountedAs xs n r.count r.staged
  told r n held within =
      let is : (s : Reference) → Contains xs s → IsIn (reference_span s) n → s ≡ r = λ s other inside. one_holder s r n other held inside within in
      ⊎_elim
      (λ (kind : r.staged ≡ true). record {
        owners = count_unshared xs n (λ s other. refuted (shares n s) (λ test.
            let tells = shares_tells n s test in
            let same : s.staged ≡ r.staged = ap (λ (x : Reference). x.staged) (is s other tells.1) in
            absurd cc)) ∙ sym (staged_count r (valid_in r held) kind);
        kind = staged_here xs r n held (stages_in n r kind within) ∙ sym kind;
      })
      (λ (kind : r.staged ≡ false). record {
        owners = count_shared xs r n is held (shares_in n r kind within);
        kind = not_staged xs n (λ s other. refuted (stages n s) (λ test.
            let tells = stages_tells n s test in
            let same : s.staged ≡ r.staged = ap (λ (x : Reference). x.staged) (is s other tells.1) in
            absurd cc)) ∙ sym kind;
      })
      (cases_Bool r.staged)

  untold : (n : ℕ) → IsUnrecorded xs n → IsCountedAs xs n 1 false
  untold n none = record {
    owners = count_unshared xs n (λ s held. refuted (shares n s) (λ test. let tells = shares_tells n s test in none s held tells.1));
    kind = not_staged xs n (λ s held. refuted (stages n s) (λ test. let tells = stages_tells n s test in none s held tells.1));
  }

  pub of_records : AreCountsOfRecords xs
  of_records = record {
    alone = one_holder;
    told = told;
    untold = untold;
    known = holder_cases xs;
    plain = λ n plain r held within.
        let is = told r n held within in not_plain r (valid_in r held) (sym is.owners ∙ plain.owners) (sym is.kind ∙ plain.kind);
  }

  -- a block that has the count and the kind of a valid record is held by one that has them
  pub holder : (r : Reference) → is_reference r ≡ true → (n : ℕ) → IsCountedAs xs n r.count r.staged → (x : Reference) × IsHolder xs n r x
  holder r good n counted = ⊎_elim
      (λ found.
      let is = told found.0 n found.1 found.2 in
      (found.0, record { held = found.1; within = found.2; count = sym is.owners ∙ counted.owners; kind = sym is.kind ∙ counted.kind }))
      (λ (none : IsUnrecorded xs n).
      let is = untold n none in absurd (not_plain r good (sym counted.owners ∙ is.owners) (sym counted.kind ∙ is.kind)))
      (holder_cases xs n)

  -- the block behind a record has another count, or is of another kind
  pub behind_it : (r : Reference) → Contains xs r → ¬ (IsCountedAs xs (end_of (reference_span r)) r.count r.staged)
  behind_it r held counted =
      let found = holder r (valid_in r held) (end_of (reference_span r)) counted in
      never_behind found.0 r (valid_in found.0 found.1.held) (valid_in r held) found.1.within found.1.count found.1.kind
      (agree_in reference_form is_reference_form xs rules found.0 r found.1.held held)

  -- a run whose blocks all have the count and the kind of a record that holds one of them lies in that record
  pub inside : (r : Reference) (run : Span) (k : ℕ) → Contains xs r → IsIn (reference_span r) k → IsIn run k
      → ((n : ℕ) → IsIn run n → IsCountedAs xs n r.count r.staged) → (r.start ≤ run.start) × (end_of run ≤ end_of (reference_span r))
  inside r run k held here mine alike =
      let good = valid_in r held in (
        ⊎_elim
            (λ (low : run.start < r.start).
            let n : ℕ = r.start - 1 in
            let found = holder r good n (alike n (record { from = omega arith; below = omega (arith, here.from, mine.below) })) in
            absurd (never_in_front found.0 r (valid_in found.0 found.1.held) good found.1.within found.1.count found.1.kind
            (agree_in reference_form is_reference_form xs rules found.0 r found.1.held held)))
            (λ (from : r.start ≤ run.start). from)
            (cases_lt run.start r.start),
        ⊎_elim
            (λ (high : end_of (reference_span r) < end_of run).
            let n : ℕ = end_of (reference_span r) in
            let found = holder r good n (alike n (record { from = omega (arith, here.below, mine.from); below = high })) in
            absurd (never_behind found.0 r (valid_in found.0 found.1.held) good found.1.within found.1.count found.1.kind
            (agree_in reference_form is_reference_form xs rules found.0 r found.1.held held)))
            (λ (until : end_of run ≤ end_of (reference_span r)). until)
            (cases_lt (end_of (reference_span r)) (end_of run)),
      )

same_reference : (x y : Reference) → x.start ≡ y.start → x.len ≡ y.len → x.count ≡ y.count → x.staged ≡ y.staged → x ≡ y
same_reference x y start len count kind i = record { start = start i; len = len i; count = count i; staged = kind i }

-- each record of the one list is one of the other
one_way : (xs ys : List Reference) → AreRecords reference_form xs → AreRecords reference_form ys → HaveSameCounts xs ys
    → (x : Reference) → Contains xs x → Contains ys x
one_way xs ys rules others alike x held =
    let good = valid_in xs rules x held in
    let run = group_run (reference_span x) (valid_run x good) in
    let here : IsIn (reference_span x) x.start = record { from = omega arith; below = omega (arith, run.1) } in
    let there : (n : ℕ) → IsIn (reference_span x) n → IsCountedAs ys n x.count x.staged = λ n within.
    let is = told xs rules x n held within in
    record { owners = sym (alike.counts n) ∙ is.owners; kind = sym (alike.staged n) ∙ is.kind } in
    let found = holder ys others x good x.start (there x.start here) in
    let y = found.0 in
    let is = found.1 in
    let wide = inside ys others y (reference_span x) x.start is.held is.within here
    (λ n within. let counted = there n within in record { owners = counted.owners ∙ sym is.count; kind = counted.kind ∙ sym is.kind }) in
    let narrow = inside xs rules x (reference_span y) x.start held here is.within (λ n within.
    let counted = told ys others y n is.held within in
    record { owners = alike.counts n ∙ counted.owners ∙ is.count; kind = alike.staged n ∙ counted.kind ∙ is.kind }) in
    subst (Contains ys) (same_reference y x (omega (arith, wide.0, narrow.0)) (omega (arith, wide.0, wide.1, narrow.0, narrow.1)) is.count is.kind) is.held

pub counts_of_records : CountsAreOfRecords
counts_of_records xs rules = of_records xs rules

pub records_follow : CountsDetermineRecords
records_follow xs ys rules others alike =
    same_sorted (λ (x y : Reference). reference_form.order x y ≡ Less) not_below (λ x y z one two. is_reference_form.total.trans x y z one two) xs ys rules.ascend others.ascend
    (one_way xs ys rules others alike)
    (one_way ys xs others rules (record { counts = λ n. sym (alike.counts n); staged = λ n. sym (alike.staged n) }))
