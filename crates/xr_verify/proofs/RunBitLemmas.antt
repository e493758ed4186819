-- Runs in a map of bits, and when a run is apart from all of them or meets none.
use Rattle.std.proofs.Common.{◌≡◌, ◌↔◌, ◌⊎◌, ℕ, ◌+◌, ◌-◌, ◌*◌, ◌/◌, ◌%◌, ◌<◌, ◌≤◌, true, false, List, [], ◌∷◌, ◌++◌, length, get_or, replicate, refl, sym, ap, ◌∙◌, subst, arith, inl, inr, ⊎_elim, length-append}
use Rattle.std.proofs.Math.Seq.{get_or-append_seam}
use Rattle.std.proofs.lemmas.Bool.{cases_eq, cases_lt, false_from_ne_true}
use Rattle.std.proofs.lemmas.Bool.Decides.{nat_tests}
use Rattle.std.proofs.lemmas.List.{get_or_append_left, get_or-replicate, get_or_past, length-replicate}
use Rattle.std.proofs.lemmas.Nat.Bits.{bit_at-zero}
use Rattle.xr_kinds.specs.declared.free_runs.BySize.{BySize}
use Rattle.xr_kinds.specs.declared.span.Span.{Span}
use Rattle.xr_pool.specs.Bits.{has_bit, with_bit}
use Rattle.xr_pool.specs.BitLaws.{bit_set, bit_set_other}
use Rattle.xr_kinds.specs.FreeRuns.{size_form, size_span}
use Rattle.xr_verify.specs.Ledger.{AgreesWithAll, IsNext}
use Rattle.xr_verify.specs.declared.run_bits.TheConstants.{MAP_BYTES}
use Rattle.xr_verify.specs.RunBits.{HoldsRuns}
use Rattle.xr_kinds.specs.SpanLaws.{group_run}
use Rattle.xr_kinds.specs.Spans.{IsIn, apart, end_of}

abbrev pub AreSetFrom : List ℕ → List ℕ → ℕ → ℕ → Type 0
AreSetFrom before now from n =
    ((i : ℕ) → from ≤ i → i < n → has_bit now i ≡ true) × ((i : ℕ) → (i < from) ⊎ (n ≤ i) → has_bit now i ≡ has_bit before i)

pub one_more : (before now next : List ℕ) (from n : ℕ) → n < 8 * length now → from ≤ n → next ≡ with_bit now n → AreSetFrom before now from n
    → AreSetFrom before next from (n + 1)
one_more before now next from n within start is sofar =
    let here : has_bit next n ≡ true = ap (λ (bits : List ℕ). has_bit bits n) is ∙ bit_set now n within in
    let other : (i : ℕ) → (i ≡ n → ⊥) → has_bit next i ≡ has_bit now i = λ i apart. ap (λ (bits : List ℕ). has_bit bits i) is ∙ bit_set_other now n i within apart in (
      λ i above below. ⊎_elim
          (λ (same : i ≡ n). ap (has_bit next) same ∙ here)
          (λ (apart : i ≡ n → ⊥). other i apart ∙ sofar.0 i above (omega (arith, below, apart)))
          (cases_eq i n),
      λ i beside.
          let apart : i ≡ n → ⊥ = λ same. ⊎_elim (λ (below : i < from). absurd (omega (arith, below, same, start))) (λ (above : n + 1 ≤ i). absurd (omega (arith, above, same))) beside in
          other i apart ∙ sofar.1 i (⊎_elim (λ (below : i < from). inl below) (λ (above : n + 1 ≤ i). inr (omega (arith, above))) beside),
    )

-- no run at all
no_bit : (size n : ℕ) → has_bit (replicate size 0) n ≡ false
no_bit size n =
    let zeros : List ℕ = replicate size 0 in
    let byte : get_or zeros (n / 8) 0 ≡ 0 = ⊎_elim
    (λ (within : n / 8 < size). get_or-replicate size (n / 8) 0 0 within)
    (λ (past : size ≤ n / 8). get_or_past zeros (n / 8) 0 (omega (arith, past, length-replicate {A = ℕ} size 0)))
    (cases_lt (n / 8) size) in
    rw (byte, bit_at-zero (n % 8)) refl

pub holds_none : {X : Type 0} (span_of : X → Span) → HoldsRuns span_of (replicate MAP_BYTES 0) []
holds_none span_of = record {
  long = length-replicate {A = ℕ} MAP_BYTES 0;
  set = λ k n d within. absurd (omega (arith, within));
  only = λ n is. absurd (let lie : false ≡ true = sym (no_bit MAP_BYTES n) ∙ is in cc);
}

in_or_beside : (s : Span) (n : ℕ) → IsIn s n ⊎ ((n < s.start) ⊎ (end_of s ≤ n))
in_or_beside s n = ⊎_elim
    (λ (below : n < s.start). inr (inl below))
    (λ (from : s.start ≤ n). ⊎_elim
    (λ (within : n < end_of s). inl (record { from = from; below = within }))
    (λ (past : end_of s ≤ n). inr (inr past))
    (cases_lt n (end_of s)))
    (cases_lt n s.start)

-- one run more
module _ {X : Type 0} (span_of : X → Span) (bits now : List ℕ) (noted : List X) (r : X) (holds : HoldsRuns span_of bits noted) (same_long : length now ≡ length bits) (set : (n : ℕ) → (span_of r).start ≤ n → n < end_of (span_of r) → has_bit now n ≡ true) (others : (n : ℕ) → (n < (span_of r).start) ⊎ (end_of (span_of r) ≤ n) → has_bit now n ≡ has_bit bits n) where
  still_set : (n : ℕ) → has_bit bits n ≡ true → has_bit now n ≡ true
  still_set n before = ⊎_elim
      (λ (within : IsIn (span_of r) n). set n within.from within.below)
      (λ (beside : (n < (span_of r).start) ⊎ (end_of (span_of r) ≤ n)). others n beside ∙ before)
      (in_or_beside (span_of r) n)

  long_now : length (noted ++ r ∷ []) ≡ length noted + 1
  long_now = length-append noted (r ∷ [])

  pub holds_more : HoldsRuns span_of now (noted ++ r ∷ [])
  holds_more = record {
    long = same_long ∙ holds.long;
    set = λ k n d within is_in. ⊎_elim
        (λ (before : k < length noted).
        still_set n (holds.set k n d before (subst (λ (x : X). IsIn (span_of x) n) (get_or_append_left noted (r ∷ []) d k before) is_in)))
        (λ (at : length noted ≤ k).
        let same : k ≡ length noted = omega (arith, at, within, long_now) in
        let own : IsIn (span_of r) n = subst (λ (x : X). IsIn (span_of x) n)
        (ap (λ (i : ℕ). get_or (noted ++ r ∷ []) i d) same ∙ get_or-append_seam noted r [] d) is_in in
        set n own.from own.below)
        (cases_lt k (length noted));
    only = λ n is. ⊎_elim
        (λ (within : IsIn (span_of r) n). (length noted, r, omega (arith, long_now), get_or-append_seam noted r [] r, within))
        (λ (beside : (n < (span_of r).start) ⊎ (end_of (span_of r) ≤ n)).
        let found = holds.only n (sym (others n beside) ∙ is) in
        (found.0, found.1, omega (arith, found.2, long_now), get_or_append_left noted (r ∷ []) found.1 found.0 found.2 ∙ found.3, found.4))
        (in_or_beside (span_of r) n);
  }

-- a run is apart from all where neither its blocks nor the two beside it are held
pub apart_of : (x r : Span) → 0 < x.len → ((n : ℕ) → IsIn x n → r.start ≤ n + 1 → n ≤ end_of r → ⊥) → apart x r ≡ true
apart_of x r some none = ⊎_elim
    (λ (before : end_of x < r.start). grind (arith, nat_tests))
    (λ (here : r.start ≤ end_of x). ⊎_elim
    (λ (after : end_of r < x.start). grind (arith, nat_tests))
    (λ (there : x.start ≤ end_of r). ⊎_elim
    (λ (first : x.start < r.start). absurd (none (r.start - 1) (record { from = omega (arith, first); below = omega (arith, first, here) }) (omega (arith, first)) (omega arith)))
    (λ (later : r.start ≤ x.start). absurd (none x.start (record { from = omega arith; below = omega (arith, some) }) (omega (arith, later)) there))
    (cases_lt x.start r.start))
    (cases_lt (end_of r) x.start))
    (cases_lt (end_of x) r.start)

pub apart_not : (x r : Span) (n : ℕ) → IsIn x n → r.start ≤ n + 1 → n ≤ end_of r → apart x r ≡ true → ⊥
apart_not x r n is from to apart_is = let from_x = is.from in let below_x = is.below in grind (arith, nat_tests)

-- so no run in the map disagrees where these bits are clear
pub size_agrees : (noted : List BySize) (bits : List ℕ) (r : BySize) → HoldsRuns size_span bits noted → IsNext size_form noted r
    → ((n : ℕ) → r.start - 1 ≤ n → n < r.start + r.len + 1 → has_bit bits n ≡ false) ↔ AgreesWithAll size_form noted r
size_agrees noted bits r holds next = (
  λ clear k d within.
      let x = get_or noted k d in
      apart_of (size_span x) (size_span r) (group_run (size_span x) (next.passed.valid k d within)).1
      (λ n is from to.
      let set : has_bit bits n ≡ true = holds.set k n d within is in
      let lie : true ≡ false = sym set ∙ clear n (omega (arith, from)) (omega (arith, to)) in absurd cc),
  λ all n from to. false_from_ne_true (has_bit bits n) (λ set.
      let found = holds.only n set in
      let agrees : apart (size_span found.1) (size_span r) ≡ true = ap (λ (x : BySize). apart (size_span x) (size_span r)) (sym found.3) ∙ all found.0 found.1 found.2 in
      apart_not (size_span found.1) (size_span r) n found.4 (omega (arith, from)) (omega (arith, to)) agrees),
)
