-- The calls on runs: where the run lies, and what two changes of it make of counts and staged blocks.
use Rattle.std.proofs.Common.{◌≡◌, ◌≢◌, ℕ, ◌+◌, ◌-◌, ◌^◌, ◌<◌, ◌≤◌, ◌==◌, Bool, true, false, max, min, List, refl, sym, ◌∙◌, ⊎_elim, arith}
use Rattle.std.proofs.lemmas.Bool.{and_parts}
use Rattle.std.proofs.lemmas.Bool.Decides.{nat_tests}
use Rattle.std.specs.List.{Contains}
use Rattle.xr_block.specs.Tree.{AreRecords}
use Rattle.xr_kinds.specs.Reference.{is_reference, reference_form, reference_span}
use Rattle.xr_kinds.specs.SpanLaws.{group_run}
use Rattle.xr_kinds.specs.Spans.{IsIn, is_group_run, meet, span}
use Rattle.xr_kinds.specs.declared.reference.Reference.{Reference}
use Rattle.xr_kinds.specs.declared.span.Span.{Span}
use Rattle.xr_refcount.specs.Calls.{IsFirstEqual, Lowers, Raises, UnstagesRun}
use Rattle.xr_refcount.specs.CountLaws.{behind_it, in_cases, inside, of_records, refuted, staged_count, valid_in, valid_run}
use Rattle.xr_refcount.specs.Counts.{AreCountedAs, IsUnrecorded, is_staged_at}
use Rattle.xr_refcount.specs.Marks.{IsFirstMeeting, IsHeldRun, MeetsNone, SetsRun, TouchesOnly, shared_run}
use Rattle.xr_refcount.proofs.JoinLemmas.{agrees_if, joins_labels}
use Rattle.xr_refcount.proofs.RecordRuleLemmas.{near_by}
use Rattle.xr_refcount.proofs.SetRunLemmas.{set_in, set_out, sets_run, still_at}

-- a block that both hold
in_both : (s t : Span) → meet s t ≡ true → IsIn s (max s.start t.start) × IsIn t (max s.start t.start)
in_both s t meets = (
  record { from = grind (arith, nat_tests); below = grind (arith, nat_tests) },
  record { from = grind (arith, nat_tests); below = grind (arith, nat_tests) },
)

meet_if : (s t : Span) (n : ℕ) → IsIn s n → IsIn t n → meet s t ≡ true
meet_if s t n one other = grind (arith, nat_tests)

pub first_block : (run : Span) → is_group_run run ≡ true → IsIn run run.start
first_block run good = let some = group_run run good in record { from = omega arith; below = omega (arith, some.1) }

pub shared_good : (run : Span) (count : ℕ) → is_group_run run ≡ true → 2 ≤ count → count < 2 ^ 32 → is_reference (shared_run run count) ≡ true
shared_good run count good two few = grind (arith, nat_tests)

two_own : (r : Reference) → is_reference r ≡ true → r.staged ≡ false → 2 ≤ r.count
two_own r good kind = grind (arith, nat_tests)

pub then_sets : (xs ys zs : List Reference) (run : Span) (count more : ℕ) (staged kind : Bool) → SetsRun xs run count staged ys → SetsRun ys run more kind zs
    → SetsRun xs run more kind zs
then_sets xs ys zs run count more staged kind one two =
    sets_run xs run more kind zs (set_in ys run more kind zs two)
    (λ n out. still_at ys zs n _ _ (set_out xs run count staged ys one n out) (set_out ys run more kind zs two n out))

module _ (xs : List Reference) (rules : AreRecords reference_form xs) (run : Span) where
  -- no record meets a run whose blocks have no record
  pub none_meets : AreCountedAs xs run 1 false → MeetsNone xs run
  none_meets plain x held = refuted (meet (reference_span x) run) (λ meets.
      let known = of_records xs rules in
      let both = in_both (reference_span x) run meets in
      known.plain (max x.start run.start) (plain (max x.start run.start) both.1) x held both.0)

  -- and where none does, they have none
  pub plain_part : MeetsNone xs run → AreCountedAs xs run 1 false
  plain_part none n within =
      let known = of_records xs rules in
      known.untold n (λ x held inside. let meets = meet_if (reference_span x) run n inside within in let lie = none x held in absurd cc)

  pub staged_part : ((n : ℕ) → IsIn run n → is_staged_at xs n ≡ true) → AreCountedAs xs run 1 true
  staged_part staged n within =
      let known = of_records xs rules in
      ⊎_elim
      (λ found.
      let is = known.told found.0 n found.1 found.2 in
      let kind = sym is.kind ∙ staged n within in
      record { owners = is.owners ∙ staged_count found.0 (valid_in xs rules found.0 found.1) kind; kind = staged n within })
      (λ (none : IsUnrecorded xs n). let is = known.untold n none in let lie = staged n within in let other = is.kind in absurd cc)
      (known.known n)

  module _ (held : Reference) (first : IsFirstMeeting xs run held) where
    module _ (count : ℕ) (staged : Bool) (good : is_group_run run ≡ true) (alike : AreCountedAs xs run count staged) where
      both : IsIn (reference_span held) (max held.start run.start) × IsIn run (max held.start run.start)
      both = in_both (reference_span held) run first.meets

      -- the record that meets it has its count and its kind, and holds it
      pub same_part : (count ≡ held.count) × (staged ≡ held.staged)
      same_part =
          let known = of_records xs rules in
          let told = known.told held (max held.start run.start) first.held both.0 in
          let is = alike (max held.start run.start) both.1 in
          (sym is.owners ∙ told.owners, sym is.kind ∙ told.kind)

      pub held_part : AreCountedAs xs run held.count staged
      held_part n within = let is = alike n within in record { owners = is.owners ∙ same_part.0; kind = is.kind }

      pub held_run : IsHeldRun xs held run
      held_run =
          let some = group_run run good in
          let lies = inside xs rules held run (max held.start run.start) first.held both.0 both.1 (λ n within.
          let is = held_part n within in record { owners = is.owners; kind = is.kind ∙ same_part.1 }) in
          record { held = first.held; some = omega (arith, some.1); from = lies.0; until = lies.1 }

    -- a shared one
    module _ (count : ℕ) (good : is_group_run run ≡ true) (alike : AreCountedAs xs run count false) where
      pub is_shared : 2 ≤ held.count
      is_shared = let same = same_part count false good alike in two_own held (valid_in xs rules held first.held) (sym same.1)

      pub not_freed : false ≡ (count == 1)
      not_freed = let same = same_part count false good alike in grind (arith, nat_tests, is_shared, same)

    -- the blocks in front of it have no record
    pub plain_front : run.start < held.start → IsFirstEqual xs run (record { run = span run.start (held.start - run.start); count = 1; staged = false })
    plain_front low =
        let known = of_records xs rules in
        let near = near_by (reference_span held) run first.meets in
        let some = group_run (reference_span held) (valid_run held (valid_in xs rules held first.held)) in
        record {
          start = refl;
          some = omega (arith, low);
          within = omega (arith, near.0);
          alike = λ n within. known.untold n (λ x other inside.
              let begins = first.first x other (meet_if (reference_span x) run n inside (record { from = within.from; below = omega (arith, within.below, near.0, low) })) in
              absurd (omega (arith, begins, inside.from, within.below, low)));
          longest = λ less plain. known.plain (run.start + (held.start - run.start)) plain held first.held
              (record { from = omega (arith, low); below = omega (arith, low, some.1) });
        }

    pub held_front : is_group_run run ≡ true → held.start ≤ run.start → (len : ℕ) → len ≡ min run.len (held.start + held.len - run.start)
        → IsFirstEqual xs run (record { run = span run.start len; count = held.count; staged = held.staged })
    held_front good from len least =
        let known = of_records xs rules in
        let near = near_by (reference_span held) run first.meets in
        let some = group_run run good in
        record {
          start = refl;
          some = grind (arith, nat_tests, some, near);
          within = grind (arith, nat_tests);
          alike = λ n within. known.told held n first.held (record { from = omega (arith, from, within.from); below = grind (arith, nat_tests, within, near) });
          longest = λ less is.
              let same : run.start + len ≡ held.start + held.len = grind (arith, nat_tests, near) in behind_it xs rules held first.held (rw same at is);
        }

-- a run that only another count touches may come in as a record
pub other_agrees : (ys : List Reference) (run : Span) (count more : ℕ) → TouchesOnly ys run count → more ≢ count → (x : Reference) → Contains ys x
    → meet (reference_span x) run ≡ false → reference_form.agree x (shared_run run more) ≡ true
other_agrees ys run count more only differs x held apart = agrees_if x (shared_run run more) apart (λ touches.
    let label = joins_labels x (shared_run run more) touches in
    let parts = and_parts _ _ touches in
    differs (sym label.0 ∙ only x held parts.1))

-- the blocks of a run have another count than the one that they had
module _ (xs ys : List Reference) (run : Span) (count left : ℕ) (alike : AreCountedAs xs run count false) (set : SetsRun xs run left false ys) where
  kinds_stay : (n : ℕ) → is_staged_at ys n ≡ is_staged_at xs n
  kinds_stay n = ⊎_elim
      (λ within. let was = alike n within.1 in let is = set_in xs run left false ys set n within.1 in is.kind ∙ sym was.kind)
      (λ out. let is = set_out xs run left false ys set n out.1 in is.kind)
      (in_cases run n)

  pub raised : left ≡ count + 1 → Raises xs run ys
  raised more = record {
    counts = λ n. set.counts n ∙ ⊎_elim
        (λ within. let was = alike n within.1 in rw within.0 (omega (arith, was.owners, more)))
        (λ out. rw out.0 refl)
        (in_cases run n);
    staged = kinds_stay;
  }

  pub lowered : left ≡ count - 1 → Lowers xs run ys
  lowered less = record {
    counts = λ n. set.counts n ∙ ⊎_elim
        (λ within. let was = alike n within.1 in rw within.0 (omega (arith, was.owners, less)))
        (λ out. rw out.0 refl)
        (in_cases run n);
    staged = kinds_stay;
  }

pub unstaged : (xs ys : List Reference) (run : Span) → AreCountedAs xs run 1 true → SetsRun xs run 1 false ys → UnstagesRun xs run ys
unstaged xs ys run alike set = record {
  counts = λ n. ⊎_elim
      (λ within. let was = alike n within.1 in let is = set_in xs run 1 false ys set n within.1 in is.owners ∙ sym was.owners)
      (λ out. let is = set_out xs run 1 false ys set n out.1 in is.owners)
      (in_cases run n);
  staged = λ n. ⊎_elim
      (λ within. let was = alike n within.1 in let is = set_in xs run 1 false ys set n within.1 in rw (was.kind, within.0) is.kind)
      (λ out. let is = set_out xs run 1 false ys set n out.1 in rw out.0 (grind (arith, is.kind)))
      (in_cases run n);
}
