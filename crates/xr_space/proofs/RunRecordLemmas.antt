-- The rules on records of free runs, of either order, after a run is added or put in the place of another.
use Rattle.std.proofs.Common.{◌≡◌, ◌≢◌, ℕ, ◌<◌, ◌≤◌, true, false, List, [], ◌∷◌, length, map, get_or, eqb, refl, sym, ap, ◌∙◌, ⊎_elim, arith}
use Rattle.std.proofs.lemmas.Bool.{cases_Bool, eqb-true, ne_eqb}
use Rattle.std.proofs.lemmas.Bool.Decides.{nat_tests}
use Rattle.std.proofs.lemmas.Cmp.{ranked}
use Rattle.std.proofs.lemmas.List.{get_or-map, length-map}
use Rattle.std.proofs.lemmas.Map.Keys.{IsDistinct-from_apart}
use Rattle.std.proofs.lemmas.Map.Steps.{length-le_from_distinct_below}
use Rattle.std.proofs.lemmas.Map.Views.{Contains-from_any}
use Rattle.std.specs.List.{All, AllPairs, Contains, IsDistinct}
use Rattle.std.specs.Ordering.{is_eq, nat_cmp}
use Rattle.std.specs.declared.cmp.Ordering.TheVariants.{Less, Equal}
use Rattle.xr_kinds.specs.declared.free_runs.ByBlock.{ByBlock}
use Rattle.xr_kinds.specs.declared.span.Span.{Span}
use Rattle.xr_kinds.specs.Form.{Form, IsForm}
use Rattle.xr_kinds.specs.FreeRunLaws.{is_block_form, is_size_form}
use Rattle.xr_kinds.specs.FreeRuns.{block_form, block_span, size_form, size_order, size_span}
use Rattle.xr_kinds.specs.SpanLaws.{group_run}
use Rattle.xr_kinds.specs.Spans.{apart, is_group_run}
use Rattle.xr_block.specs.Tree.{AreRecords}
use Rattle.xr_change.specs.Sets.{inserted, replaced}
use Rattle.xr_change.specs.SetLaws.{agree_in, inserted_rules, is_equal, replaced_rules}

abbrev first_block : Span → ℕ
first_block s = s.start

-- what the two orders of free runs have in common
pub record IsRunForm {X : Type 0} (form : Form X) (span_of : X → Span) : Type 0 where
  pub laws : IsForm form
  pub valid : (x : X) → form.is_valid x ≡ is_group_run (span_of x)
  pub agrees : (x y : X) → form.agree x y ≡ apart (span_of x) (span_of y)
  pub tied : (x y : X) → form.order x y ≡ Equal → first_block (span_of x) ≡ first_block (span_of y)
  pub leaf : form.leaf_max ≡ 505
  pub node : form.node_max ≡ 336
  pub many : form.most ≡ 4294967295

same_starts : (a b : Span) → size_order a b ≡ Equal → a.start ≡ b.start
same_starts a b tied = grind (arith, nat_tests)

pub by_block_runs : IsRunForm block_form block_span
by_block_runs = record {
  laws = is_block_form;
  valid = λ x. refl;
  agrees = λ x y. refl;
  tied = λ x y tied. ranked x.start y.start Equal (sym tied);
  leaf = refl;
  node = refl;
  many = refl;
}

pub by_size_runs : IsRunForm size_form size_span
by_size_runs = record {
  laws = is_size_form;
  valid = λ x. refl;
  agrees = λ x y. refl;
  tied = λ x y tied. same_starts (size_span x) (size_span y) tied;
  leaf = refl;
  node = refl;
  many = refl;
}

different_starts : (a b : Span) → apart a b ≡ true → a.start ≢ b.start
different_starts a b away same = grind (arith, nat_tests)

module _ {X : Type 0} (form : Form X) (span_of : X → Span) (runs : IsRunForm form span_of) where
  abbrev start_of : X → ℕ
  start_of x = first_block (span_of x)

  agree_apart : (x y : X) → form.agree x y ≡ true → apart (span_of x) (span_of y) ≡ true
  agree_apart x y agree = sym (runs.agrees x y) ∙ agree

  valid_good : (x : X) → form.is_valid x ≡ true → is_group_run (span_of x) ≡ true
  valid_good x valid = sym (runs.valid x) ∙ valid

  -- at most as many as a group has blocks
  pub few_runs : (xs : List X) → All (λ (x : X). form.is_valid x ≡ true) xs → AllPairs (λ (x y : X). form.agree x y ≡ true) xs → length xs ≤ 2048
  few_runs [] valid agree = omega arith
  few_runs (x ∷ xs) valid agree =
      let all : List X = x ∷ xs in
      let starts : List ℕ = map start_of all in
      let long : length starts ≡ length all = length-map all start_of in
      let distinct : IsDistinct eqb starts = IsDistinct-from_apart eqb starts (λ i j d before within.
      let late : j < length all = omega (arith, within, long) in
      let early : i < length all = omega (arith, before, late) in
      let one : get_or starts i d ≡ start_of (get_or all i x) = get_or-map start_of all i x d early in
      let other : get_or starts j d ≡ start_of (get_or all j x) = get_or-map start_of all j x d late in
      let away = agree_apart (get_or all i x) (get_or all j x) (agree i j x before late) in
      ne_eqb (get_or starts i d) (get_or starts j d)
      (λ same. different_starts (span_of (get_or all i x)) (span_of (get_or all j x)) away (sym one ∙ same ∙ other))) in
      let few : length starts ≤ 2048 = length-le_from_distinct_below starts 2048 distinct (λ q found.
      let at = Contains-from_any eqb-true q starts found in
      let within : at.0 < length all = omega (arith, at.1, long) in
      let here : get_or starts at.0 q ≡ start_of (get_or all at.0 x) = get_or-map start_of all at.0 x q within in
      let good = group_run (span_of (get_or all at.0 x)) (valid_good (get_or all at.0 x) (valid at.0 x within)) in
      omega (arith, good.1, good.2, here, at.2)) in
      omega (arith, few, long)

  untied : (x y : X) → apart (span_of x) (span_of y) ≡ true → is_eq (form.order x y) ≡ false
  untied x y away =
      grind (arith, cases_Bool (is_eq (form.order x y)), is_equal (form.order x y), runs.tied x y, different_starts (span_of x) (span_of y) away)

  -- a run that stands apart from the others may come in
  pub apart_rules : (r : X) (xs : List X) → AreRecords form xs → is_group_run (span_of r) ≡ true
      → ((x : X) → Contains xs x → apart (span_of x) (span_of r) ≡ true) → AreRecords form (inserted form.order r xs)
  apart_rules r xs records good fits = inserted_rules form runs.laws xs r records (record {
    valid = runs.valid r ∙ good;
    other = λ x within. untied x r (fits x within);
    agree = λ x within. runs.agrees x r ∙ fits x within;
    few = omega (arith, runs.many, few_runs xs records.valid records.agree);
  })

-- a run that meets or touches another stands on the same side of what is apart from both
same_side : (x old new : Span) → apart old new ≡ false → apart x old ≡ true → apart x new ≡ true → nat_cmp x.start new.start ≡ nat_cmp x.start old.start
same_side x old new near one other = grind (arith, nat_tests)

other_side : (x old new : Span) → apart old new ≡ false → apart x old ≡ true → apart x new ≡ true → nat_cmp new.start x.start ≡ nat_cmp old.start x.start
other_side x old new near one other = grind (arith, nat_tests)

not_itself : (n : ℕ) → nat_cmp n n ≢ Less
not_itself n less = grind (arith, nat_tests)

-- and may come in in its place
module _ (old new : ByBlock) (xs : List ByBlock) (records : AreRecords block_form xs) (held : Contains xs old) (good : is_group_run (block_span new) ≡ true) (fits : (x : ByBlock) → Contains xs x → x ≢ old → apart (block_span x) (block_span new) ≡ true) (near : apart (block_span old) (block_span new) ≡ false) where
  away : (x : ByBlock) → Contains xs x → x ≢ old → apart (block_span x) (block_span old) ≡ true
  away x within other = ⊎_elim (λ same. absurd (other same)) (λ agree. agree) (agree_in block_form is_block_form xs records x old within held)

  below_new : (x : ByBlock) → Contains xs x → block_form.order x old ≡ Less → block_form.order x new ≡ Less
  below_new x within less =
      let other : x ≢ old = λ same. not_itself x.start (ap (λ (r : ByBlock). nat_cmp x.start r.start) same ∙ less) in
      same_side (block_span x) (block_span old) (block_span new) near (away x within other) (fits x within other) ∙ less

  after_new : (x : ByBlock) → Contains xs x → block_form.order old x ≡ Less → block_form.order new x ≡ Less
  after_new x within less =
      let other : x ≢ old = λ same. not_itself x.start (ap (λ (r : ByBlock). nat_cmp r.start x.start) same ∙ less) in
      other_side (block_span x) (block_span old) (block_span new) near (away x within other) (fits x within other) ∙ less

  pub near_rules : AreRecords block_form (replaced block_form.order old new xs)
  near_rules = replaced_rules block_form is_block_form xs old new records (record {
    held = held;
    valid = good;
    place = record { below = below_new; after = after_new };
    agree = fits;
  })
