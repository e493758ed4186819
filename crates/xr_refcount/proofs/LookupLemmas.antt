-- Lookups of the records that meet a run, of which those of shared blocks come first in the order of the tree.
use Rattle.std.proofs.Common.{◌≡◌, ℕ, ◌<◌, ◌≤◌, true, false, List, Option, Some, None, refl, sym, ap, ◌∙◌, ⊎_elim, arith}
use Rattle.std.proofs.lemmas.Bool.{and_parts, cases_Bool, cases_lt}
use Rattle.std.proofs.lemmas.Bool.Decides.{nat_tests}
use Rattle.std.proofs.lemmas.List.Elements.{All-contains}
use Rattle.std.specs.List.{Contains}
use Rattle.std.specs.Ordering.{is_lt}
use Rattle.xr_block.specs.Tree.{AreRecords}
use Rattle.xr_kinds.specs.Reference.{is_reference, reference_form, reference_span}
use Rattle.xr_kinds.specs.Spans.{IsIn, meet, span}
use Rattle.xr_kinds.specs.declared.reference.Reference.{Reference}
use Rattle.xr_kinds.specs.declared.span.Span.{Span}
use Rattle.xr_lookup.specs.Lookup.{IsLeast, is_after, overlaps}
use Rattle.xr_refcount.specs.CountLaws.{of_records, valid_in}
use Rattle.xr_refcount.specs.Marks.{IsFirstMeeting, shared_run}
use Rattle.xr_refcount.proofs.RecordRuleLemmas.{near_by}

not_lower : (x y : Reference) → is_lt (reference_form.order x y) ≡ false → x.staged ≡ y.staged → y.start ≤ x.start
not_lower x y above kind = grind (arith, nat_tests)

staged_too : (x y : Reference) → is_reference x ≡ true → is_lt (reference_form.order x y) ≡ false → y.staged ≡ true → x.staged ≡ true
staged_too x y good above kind = grind (arith, nat_tests)

-- the place in the order behind all shared ones
abbrev last_shared : ℕ → Reference
last_shared len = record { start = 2048; len = len; count = 2; staged = false }

staged_behind : (x : Reference) (len : ℕ) → is_reference x ≡ true → is_after reference_form (Some (last_shared len)) x ≡ true → x.staged ≡ true
staged_behind x len good behind = grind (arith, nat_tests)

behind_shared : (x : Reference) (len : ℕ) → is_reference x ≡ true → x.staged ≡ true
    → is_after reference_form (Some (last_shared len)) x ≡ true
behind_shared x len good kind = grind (arith, nat_tests)

module _ (xs : List Reference) (rules : AreRecords reference_form xs) (run : Span) where
  abbrev Meets : Reference → Type 0
  Meets x = meet (reference_span x) run ≡ true

  at_least : (after : Option Reference) (first x : Reference) → IsLeast reference_form xs (overlaps reference_form (shared_run run 2) after) first
      → Contains xs x → Meets x → is_after reference_form after x ≡ true → is_lt (reference_form.order x first) ≡ false
  at_least after first x least held meets behind =
      All-contains (λ (y : Reference). overlaps reference_form (shared_run run 2) after y ≡ true → is_lt (reference_form.order y first) ≡ false) xs x
      least.least held (rw (meets, behind) refl)

  module _ (first : Reference) (least : IsLeast reference_form xs (overlaps reference_form (shared_run run 2) None) first) where
    meets_run : Meets first
    meets_run = grind (arith, least.fits)

    -- the first of all is a staged one, and then all are
    pub staged_first : first.staged ≡ true → IsFirstMeeting xs run first
    staged_first kind = record {
      held = least.held;
      meets = meets_run;
      first = λ x held meets.
          let above = at_least None first x least held meets refl in
          not_lower x first above (staged_too x first (valid_in xs rules x held) above kind ∙ sym kind);
    }

    -- it holds the first block, and so no other does
    pub holds_front : first.start ≤ run.start → IsFirstMeeting xs run first
    holds_front from = record {
      held = least.held;
      meets = meets_run;
      first = λ x held meets. ⊎_elim
          (λ (low : x.start < first.start).
          let known = of_records xs rules in
          let near = near_by (reference_span x) run meets in
          let mine = near_by (reference_span first) run meets_run in
          let same = known.alone x first first.start held least.held (record { from = omega arith; below = omega (arith, near.1) })
          (record { from = omega arith; below = omega (arith, from, mine.1) }) in
          let starts = ap (λ (y : Reference). y.start) same in
          omega arith)
          (λ (high : first.start ≤ x.start). high)
          (cases_lt x.start first.start);
    }

    -- of the shared ones it is the first
    module _ (kind : first.staged ≡ false) where
      shared_first : (x : Reference) → Contains xs x → Meets x → x.staged ≡ false → first.start ≤ x.start
      shared_first x held meets shared = not_lower x first (at_least None first x least held meets refl) (shared ∙ sym kind)

      -- and of all where each staged one that meets the run begins behind it
      pub before_staged : ((x : Reference) → Contains xs x → Meets x → x.staged ≡ true → first.start ≤ x.start) → IsFirstMeeting xs run first
      before_staged behind = record {
        held = least.held;
        meets = meets_run;
        first = λ x held meets. ⊎_elim (behind x held meets) (shared_first x held meets) (cases_Bool x.staged);
      }

      module _ (staged : Reference) (next : IsLeast reference_form xs (overlaps reference_form (shared_run run 2) (Some (last_shared run.len))) staged) where
        is_staged : staged.staged ≡ true
        is_staged = let parts = and_parts _ _ next.fits in staged_behind staged run.len (valid_in xs rules staged next.held) parts.1

        pub next_staged : (x : Reference) → Contains xs x → Meets x → x.staged ≡ true → staged.start ≤ x.start
        next_staged x held meets other =
            let above = at_least (Some (last_shared run.len)) staged x next held meets (behind_shared x run.len (valid_in xs rules x held) other) in
            not_lower x staged above (other ∙ sym is_staged)

        pub staged_before : staged.start < first.start → IsFirstMeeting xs run staged
        staged_before low = record {
          held = next.held;
          meets = grind (arith, next.fits);
          first = λ x held meets. ⊎_elim (next_staged x held meets) (λ (shared : x.staged ≡ false). omega (arith, shared_first x held meets shared)) (cases_Bool x.staged);
        }

-- a record meets a run of one block where it holds that block
meets_place : (x : Reference) (block : ℕ) → IsIn (reference_span x) block → meet (reference_span x) (span block 1) ≡ true
meets_place x block within = grind (arith, nat_tests)

pub holds_place : (x : Reference) (block : ℕ) → meet (reference_span x) (span block 1) ≡ true → IsIn (reference_span x) block
holds_place x block meets = let near = near_by (reference_span x) (span block 1) meets in record { from = omega arith; below = omega arith }

pub none_there : (x : Reference) (block : ℕ) → meet (reference_span x) (span block 1) ≡ false → ¬ (IsIn (reference_span x) block)
none_there x block apart within = let lie = meets_place x block within in absurd cc

pub found_there : (xs : List Reference) → AreRecords reference_form xs → (block : ℕ) (found x : Reference) → IsFirstMeeting xs (span block 1) found
    → Contains xs x → IsIn (reference_span x) block → x ≡ found
found_there xs rules block found x first held within =
    let known = of_records xs rules in known.alone x found block held first.held within (holds_place found block first.meets)
