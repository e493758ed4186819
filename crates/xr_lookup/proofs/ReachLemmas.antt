-- The run between the keys of a child and of the next holds each record under the child.
use Rattle.std.proofs.Common.{◌≡◌, ◌⊎◌, ℕ, ◌+◌, ◌%◌, ◌^◌, ◌<◌, ◌≤◌, Bool, true, false, Option, Some, None, List, get_or, refl, sym, ap, ◌∙◌, subst, arith, inl, inr, ⊎_elim}
use Rattle.std.proofs.lemmas.Bool.Decides.{nat_tests}
use Rattle.byteorder.specs.Endian.{big_number}
use Rattle.std.specs.List.{All, find}
use Rattle.xr_lookup.specs.declared.lookup.Wanted.{Wanted}
use Rattle.xr_kinds.specs.declared.mapping.Mapping.{Mapping}
use Rattle.xr_kinds.specs.declared.span.Span.{Span}
use Rattle.xr_kinds.specs.Form.{Form}
use Rattle.xr_lookup.specs.Lookup.{is_wanted}
use Rattle.xr_kinds.specs.Spans.{meet}
use Rattle.xr_block.specs.PartLaws.{find_none}
use Rattle.xr_kinds.specs.declared.reference.Reference.{Reference}
use Rattle.xr_kinds.specs.BigEndianLaws.{reads_alone}
use Rattle.xr_kinds.specs.Mapping.{is_mapping, mapping_form, mapping_span}
use Rattle.xr_lookup.specs.Reach.{IsInside, IsUnderKeys, between, next_offset, next_start, offset_in}
use Rattle.xr_kinds.specs.Reference.{first_word, is_reference, reference_form, reference_span}

offset_small : (y : Mapping) → is_mapping y ≡ true → (0 < y.len) × (y.off + y.len ≤ 512)
offset_small y good = grind (arith, nat_tests)

pub mapping_inside : (low high : List ℕ) (next : Option (List ℕ)) (x : Mapping) → IsUnderKeys mapping_form low high next x
    → IsInside (mapping_span x) (between (offset_in low) (next_offset next))
mapping_inside low high None x under =
    let small = offset_small x under.valid in
    let from : big_number 8 low ≤ x.off = let h = under.from in grind (arith, nat_tests) in
    record { from = omega arith; below = omega arith }
mapping_inside low high (Some key) x under =
    let small = offset_small x under.valid in
    let next = under.before in
    let small_next = offset_small next.next next.valid in
    let number : big_number 8 key ≡ next.next.off = ap (big_number 8) (sym next.low) ∙ reads_alone 8 next.next.off (omega (arith, small_next)) in
    let from : big_number 8 low ≤ x.off = let h = under.from in grind (arith, nat_tests) in
    let after : x.off + x.len ≤ next.next.off = let h = next.less in let a = next.agrees in grind (arith, nat_tests) in
    record { from = omega arith; below = omega arith }

run_small : (y : Reference) → is_reference y ≡ true → (0 < y.len) × (y.start + y.len ≤ 2048)
run_small y good = grind (arith, nat_tests)

words_by : (y : Reference) (staged : Bool) → y.staged ≡ staged → (first_word y ≡ y.start + 2 ^ 31) ⊎ (first_word y ≡ y.start)
words_by y true is = inl (rw is refl)
words_by y false is = inr (rw is refl)

-- the last number of x is below that of a later record, which it doesn't meet
ends_before : (x y : Reference) → 0 < y.len → x.start < y.start → reference_form.agree x y ≡ true → x.start + x.len ≤ y.start
ends_before x y some less agrees = grind (arith, nat_tests)

low_inside : (x : Reference) (w v : ℕ) → w ≤ x.start → x.start + x.len ≤ v → v < 2 ^ 31 → IsInside (reference_span x) (between (w % 2 ^ 31) (v % 2 ^ 31))
low_inside x w v from below small = record { from = omega arith; below = omega arith }

high_inside : (x : Reference) (w v : ℕ) → 2 ^ 31 ≤ w → w ≤ x.start + 2 ^ 31 → x.start + x.len ≤ v → v < 2 ^ 31
    → IsInside (reference_span x) (between (w % 2 ^ 31) ((v + 2 ^ 31) % 2 ^ 31))
high_inside x w v staged from below small = record { from = omega arith; below = omega arith }

-- the next record of a child's records
module _ (w : ℕ) (x y : Reference) (good_x : is_reference x ≡ true) (good_y : is_reference y ≡ true) (from : w ≤ first_word x) (less : first_word x < first_word y) (agrees : reference_form.agree x y ≡ true) (one : 2 ^ 31 ≤ w ⊎ first_word y < 2 ^ 31) where
  before_next : IsInside (reference_span x) (between (w % 2 ^ 31) (first_word y % 2 ^ 31))
  before_next =
      let small_x = run_small x good_x in
      let small_y = run_small y good_y in
      let Goal : ℕ → Type 0 = λ v. IsInside (reference_span x) (between (w % 2 ^ 31) (v % 2 ^ 31)) in
      ⊎_elim
      (λ (staged : first_word x ≡ x.start + 2 ^ 31). ⊎_elim
      (λ (both : first_word y ≡ y.start + 2 ^ 31).
      subst Goal (sym both) (high_inside x w y.start (⊎_elim (λ (up : 2 ^ 31 ≤ w). up) (λ (down : first_word y < 2 ^ 31). absurd (omega arith)) one) (omega arith)
      (ends_before x y small_y.0 (omega arith) agrees) (omega (arith, small_y))))
      (λ (other : first_word y ≡ y.start). absurd (omega (arith, small_y)))
      (words_by y y.staged refl))
      (λ (plain : first_word x ≡ x.start). ⊎_elim
      (λ (other : first_word y ≡ y.start + 2 ^ 31).
      ⊎_elim (λ (up : 2 ^ 31 ≤ w). absurd (omega (arith, small_x))) (λ (down : first_word y < 2 ^ 31). absurd (omega arith)) one)
      (λ (both : first_word y ≡ y.start).
      subst Goal (sym both) (low_inside x w y.start (omega arith) (ends_before x y small_y.0 (omega arith) agrees) (omega (arith, small_y))))
      (words_by y y.staged refl))
      (words_by x x.staged refl)

pub reference_inside : (low high : List ℕ) (next : Option (List ℕ)) (x : Reference) → IsUnderKeys reference_form low high next x
    → (2 ^ 31 ≤ big_number 4 low) ⊎ (next_start next (2 ^ 31 + 2048) < 2 ^ 31)
    → IsInside (reference_span x) (between (big_number 4 low % 2 ^ 31) (next_start next (2 ^ 31 + 2048) % 2 ^ 31))
reference_inside low high None x under one =
    let small = run_small x under.valid in
    let from : big_number 4 low ≤ first_word x = let h = under.from in grind (arith, nat_tests) in
    ⊎_elim
    (λ (up : 2 ^ 31 ≤ big_number 4 low). ⊎_elim
    (λ (staged : first_word x ≡ x.start + 2 ^ 31). high_inside x (big_number 4 low) 2048 up (omega arith) small.1 (omega arith))
    (λ (plain : first_word x ≡ x.start). absurd (omega (arith, small)))
    (words_by x x.staged refl))
    (λ (down : 2 ^ 31 + 2048 < 2 ^ 31). absurd (omega arith))
    one
reference_inside low high (Some key) x under one =
    let y = under.before.next in
    let good = under.before.valid in
    let small = run_small y good in
    let number : first_word y ≡ big_number 4 key =
    sym (ap (big_number 4) (sym under.before.low) ∙ reads_alone 4 (first_word y) (⊎_elim
    (λ (staged : first_word y ≡ y.start + 2 ^ 31). let few : first_word y < 256 ^ 4 = omega (arith, small) in few)
    (λ (plain : first_word y ≡ y.start). omega (arith, small))
    (words_by y y.staged refl))) in
    let from : big_number 4 low ≤ first_word x = let h = under.from in grind (arith, nat_tests) in
    let less : first_word x < first_word y = let h = under.before.less in grind (arith, nat_tests) in
    subst (λ (v : ℕ). IsInside (reference_span x) (between (big_number 4 low % 2 ^ 31) (v % 2 ^ 31))) number
    (before_next (big_number 4 low) x y under.valid good from less under.before.agrees
    (subst (λ (v : ℕ). (2 ^ 31 ≤ big_number 4 low) ⊎ (v < 2 ^ 31)) (sym number) one))

-- a run misses what the run around it misses
pub misses : (inner outer s : Span) → IsInside inner outer → meet outer s ≡ false → meet inner s ≡ false
misses inner outer s inside apart = let from = inside.from in let below = inside.below in grind (arith, nat_tests)

-- records that are inside of a run that misses are not wanted
pub none_held : {X : Type 0} (form : Form X) (span_of : X → Span) (by_runs : (x y : X) → form.meet x y ≡ meet (span_of x) (span_of y)) (wanted : Wanted X) (r : X) (reach : Span)
    (records : List X) → wanted.meeting ≡ Some r → All (λ (x : X). IsInside (span_of x) reach) records → meet reach (span_of r) ≡ false
    → None ≡ find (is_wanted form wanted) records
none_held form span_of by_runs wanted r reach records given inside apart =
    sym (find_none (is_wanted form wanted) records
    (λ k d within.
    let x = get_or records k d in
    let missed : form.meet x r ≡ false = by_runs x r ∙ misses (span_of x) reach (span_of r) (inside k d within) apart in
    rw (given, missed) refl))
