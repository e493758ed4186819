-- The rules on reference records after one is added or put in the place of another, and what such a change of their tree is.
use Rattle.std.proofs.Common.{◌≡◌, ◌≢◌, ◌⊎◌, ℕ, ◌+◌, ◌^◌, ◌<◌, ◌≤◌, true, false, List, length, map, get_or, sym, ap, ◌∙◌, ⊎_elim, arith}
use Rattle.std.proofs.lemmas.Bool.Decides.{nat_tests}
use Rattle.std.proofs.lemmas.List.{get_or-map, length-map}
use Rattle.std.specs.List.{Contains}
use Rattle.std.specs.Ordering.{is_eq}
use Rattle.std.specs.declared.cmp.Ordering.TheVariants.{Less}
use Rattle.xr_block.specs.TimesLaws.{few_of}
use Rattle.xr_block.specs.Tree.{AreRecords}
use Rattle.xr_block.specs.Trees.{IsTree}
use Rattle.xr_block.specs.declared.root.Root.{Root}
use Rattle.xr_change.specs.Calls.{ChangesTree}
use Rattle.xr_change.specs.SetLaws.{agree_in, inserted_rules, replaced_rules}
use Rattle.xr_change.specs.Sets.{inserted, replaced}
use Rattle.xr_change.specs.TreeStepLaws.{changes_are_steps}
use Rattle.xr_change.specs.TreeSteps.{IsTreeStep}
use Rattle.xr_kinds.specs.Reference.{first_word, is_reference, reference_form, reference_span}
use Rattle.xr_kinds.specs.ReferenceLaws.{is_reference_form}
use Rattle.xr_kinds.specs.Spans.{end_of, meet}
use Rattle.xr_kinds.specs.declared.reference.Reference.{Reference}
use Rattle.xr_kinds.specs.declared.span.Span.{Span}
use Rattle.xr_pool.specs.Overlay.{Blocks, free_count}
use Rattle.xr_refcount.specs.CountLaws.{valid_in}
use Rattle.xr_tree.specs.SmallTreeLaws.{reference_trees}

-- records of a group are few, since each has a block of its own
starts_differ : (x y : Reference) → is_reference x ≡ true → is_reference y ≡ true → reference_form.agree x y ≡ true → x.start ≢ y.start
starts_differ x y one other agree same = grind (arith, nat_tests)

start_low : (x : Reference) → is_reference x ≡ true → x.start < 2048
start_low x good = grind (arith, nat_tests)

few_records : (xs : List Reference) → AreRecords reference_form xs → length xs ≤ 2048
few_records xs rules =
    let start : Reference → ℕ = λ r. r.start in
    let none : Reference = record { start = 0; len = 0; count = 0; staged = false } in
    let long : length (map start xs) ≡ length xs = length-map xs start in
    let few = few_of (map start xs) 2048
    (λ i j d before within same.
    let late : j < length xs = omega (arith, within, long) in
    let early : i < length xs = omega (arith, before, late) in
    starts_differ (get_or xs i none) (get_or xs j none) (rules.valid i none early) (rules.valid j none late) (rules.agree i j none before late)
    (sym (get_or-map start xs i none d early) ∙ same ∙ get_or-map start xs j none d late))
    (λ i d within.
    let inside : i < length xs = omega (arith, within, long) in
    omega (arith, start_low (get_or xs i none) (rules.valid i none inside), get_or-map start xs i none d inside)) in
    omega (arith, few, long)

untied : (x r : Reference) → is_reference x ≡ true → is_reference r ≡ true → reference_form.agree x r ≡ true → is_eq (reference_form.order x r) ≡ false
untied x r one other agree = grind (arith, nat_tests)

-- what meets neither of two records of one kind, which meet, stands on one side of both
words : (r : Reference) → ((r.staged ≡ false) × (first_word r ≡ r.start)) ⊎ ((r.staged ≡ true) × (first_word r ≡ r.start + 2 ^ 31))
words r = grind arith

low : (x y : Reference) → reference_form.order x y ≡ Less → first_word x < first_word y
low x y less = grind (arith, nat_tests)

lower : (x y : Reference) → first_word x < first_word y → reference_form.order x y ≡ Less
lower x y less = grind (arith, nat_tests)

pub sides : (x y : Reference) → is_reference x ≡ true → is_reference y ≡ true → reference_form.agree x y ≡ true
    → (end_of (reference_span x) ≤ y.start) ⊎ (end_of (reference_span y) ≤ x.start)
sides x y one other agree = grind (arith, nat_tests)

pub near_by : (s t : Span) → meet s t ≡ true → (s.start < end_of t) × (t.start < end_of s)
near_by s t meets = (grind (arith, nat_tests), grind (arith, nat_tests))

module _ (x old new : Reference) (good : is_reference x ≡ true) (one : is_reference old ≡ true) (other : is_reference new ≡ true) (kind : new.staged ≡ old.staged) (near : meet (reference_span old) (reference_span new) ≡ true) (apart : reference_form.agree x old ≡ true) (away : reference_form.agree x new ≡ true) where
  below_both : reference_form.order x old ≡ Less → reference_form.order x new ≡ Less
  below_both less =
      let near_words = near_by (reference_span old) (reference_span new) near in
      let first = sides x old good one apart in
      let second = sides x new good other away in
      let below = low x old less in
      lower x new (grind (arith, words x, words old, words new, near_words, first, second, below, start_low x good, start_low old one, start_low new other))

  after_both : reference_form.order old x ≡ Less → reference_form.order new x ≡ Less
  after_both less =
      let near_words = near_by (reference_span old) (reference_span new) near in
      let first = sides x old good one apart in
      let second = sides x new good other away in
      let below = low old x less in
      lower new x (grind (arith, words x, words old, words new, near_words, first, second, below, start_low x good, start_low old one, start_low new other))

not_below : (x : Reference) → reference_form.order x x ≢ Less
not_below x less = grind (arith, nat_tests)

module _ (xs : List Reference) (rules : AreRecords reference_form xs) where
  pub insertion_rules : (r : Reference) → is_reference r ≡ true → ((x : Reference) → Contains xs x → reference_form.agree x r ≡ true)
      → AreRecords reference_form (inserted reference_form.order r xs)
  insertion_rules r good fits = inserted_rules reference_form is_reference_form xs r rules (record {
    valid = good;
    other = λ x held. untied x r (valid_in xs rules x held) good (fits x held);
    agree = fits;
    few = omega (arith, few_records xs rules);
  })

  module _ (old new : Reference) (held : Contains xs old) (good : is_reference new ≡ true) (kind : new.staged ≡ old.staged) (near : meet (reference_span old) (reference_span new) ≡ true) (fits : (x : Reference) → Contains xs x → x ≢ old → reference_form.agree x new ≡ true) where
    away : (x : Reference) → Contains xs x → x ≢ old → reference_form.agree x old ≡ true
    away x within other =
        ⊎_elim (λ same. absurd (other same)) (λ agree. agree) (agree_in reference_form is_reference_form xs rules x old within held)

    below_other : (x : Reference) → reference_form.order x old ≡ Less → x ≢ old
    below_other x less same = not_below old (ap (λ (y : Reference). reference_form.order y old) (sym same) ∙ less)

    after_other : (x : Reference) → reference_form.order old x ≡ Less → x ≢ old
    after_other x less same = not_below old (ap (reference_form.order old) (sym same) ∙ less)

    pub replacement_rules : AreRecords reference_form (replaced reference_form.order old new xs)
    replacement_rules =
        let old_good = valid_in xs rules old held in
        replaced_rules reference_form is_reference_form xs old new rules (record {
          held = held;
          valid = good;
          place = record {
            below = λ x within less.
                let other = below_other x less in
                below_both x old new (valid_in xs rules x within) old_good good kind near (away x within other) (fits x within other) less;
            after = λ x within less.
                let other = after_other x less in
                after_both x old new (valid_in xs rules x within) old_good good kind near (away x within other) (fits x within other) less;
          };
          agree = fits;
        })

-- a change of the tree writes at most seven blocks, since there are at most two levels
pub tree_step : (a : Blocks) (old : Root) (b : Blocks) (new : Root) (change : List Reference → List Reference) (most : ℕ) → IsTree reference_form a old
    → ChangesTree reference_form a old b new change → free_count a ≤ free_count b + most → IsTreeStep reference_form a old b new most 7
tree_step a old b new change most tree step room =
    let small = reference_trees a old tree in
    changes_are_steps reference_form a old b new change most 7 step room (omega (arith, small.few_levels))
