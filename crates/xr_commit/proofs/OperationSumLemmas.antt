-- The headers of a body, summed up.
use Rattle.std.proofs.Common.{◌≡◌, ℕ, ◌+◌, ◌<◌, ◌≤◌, ◌^◌, ◌∙◌, Bool, true, false, List, [], ◌∷◌, ◌++◌, length, drop, refl, sym, ap}
use Rattle.std.specs.Prelude.{◌||◌, sum_by}
use Rattle.std.specs.List.{list_any}
use Rattle.std.proofs.lemmas.List.{length_push}
use Rattle.std.proofs.lemmas.List.Folds.{list_any-append}
use Rattle.std.proofs.lemmas.List.Sums.{sum_by_push}
use Rattle.xr_record.specs.declared.operation.Fields.{Fields}
use Rattle.xr_record.specs.declared.layout.TheConstants.{OPERATION_BYTES}
use Rattle.xr_base.specs.declared.layout.TheConstants.{MAX_BODY_BYTES}
use Rattle.xr_record.specs.Operations.{fields}
use Rattle.xr_commit.specs.Operations.{headers_of, is_unmount, operation_len}
use Rattle.xr_commit.proofs.HeaderWalkLemmas.{IsWalk, walk_begins, walk_ends, walk_on}

-- what is summed up is of the headers that were passed
pub record IsSumming (body : List ℕ) (operations bytes : ℕ) (unmounts : Bool) : Type 0 where
  pub passed : List Fields
  pub walk : IsWalk body bytes passed
  pub number : operations ≡ length passed
  pub sizes : bytes ≡ sum_by operation_len passed
  pub marks : unmounts ≡ list_any is_unmount passed

pub sums_begin : (body : List ℕ) → IsSumming body 0 0 false
sums_begin body = record { passed = []; walk = walk_begins body; number = refl; sizes = refl; marks = refl }

pub or_true : (a b : Bool) → a ≡ true → a ≡ (a || b)
or_true true b is = refl
or_true false b is = absurd (cc)

pub or_false : (a b : Bool) → a ≡ false → b ≡ (a || b)
or_false true b is = absurd (cc)
or_false false b is = refl

or_none : (a : Bool) → (a || false) ≡ a
or_none true = refl
or_none false = refl

-- one operation more
pub sums_on : (body header : List ℕ) (operations bytes len : ℕ) (unmounts unmounts' : Bool) → header ≡ drop bytes body
    → IsSumming body operations bytes unmounts → bytes + OPERATION_BYTES ≤ length body → length body ≤ MAX_BODY_BYTES
    → len ≡ operation_len (fields header) → len < 2 ^ 33 → unmounts' ≡ (unmounts || is_unmount (fields header))
    → IsSumming body (operations + 1) (bytes + len) unmounts'
sums_on body header operations bytes len unmounts unmounts' is s whole short len_is fits marked =
    let f : Fields = fields header in
    record {
      passed = s.passed ++ f ∷ [];
      walk = walk_on body header bytes len s.passed is s.walk whole short len_is fits;
      number = ap (λ (n : ℕ). n + 1) s.number ∙ sym (length_push s.passed f);
      sizes = ap (λ (n : ℕ). n + len) s.sizes ∙ ap (λ (n : ℕ). sum_by operation_len s.passed + n) len_is ∙ sym (sum_by_push operation_len s.passed f);
      marks = marked ∙ ap (λ (b : Bool). b || is_unmount f) s.marks ∙ ap (λ (b : Bool). list_any is_unmount s.passed || b) (sym (or_none (is_unmount f)))
          ∙ sym (list_any-append is_unmount s.passed (f ∷ []));
    }

-- the sums at the end
pub sums_end : (body : List ℕ) (operations bytes : ℕ) (unmounts : Bool) → IsSumming body operations bytes unmounts → length body < bytes + OPERATION_BYTES
    → (operations ≡ length (headers_of body)) × (bytes ≡ sum_by operation_len (headers_of body)) × (unmounts ≡ list_any is_unmount (headers_of body))
sums_end body operations bytes unmounts s over =
    let all = sym (walk_ends body bytes s.passed s.walk over) in (
      s.number ∙ ap length all,
      s.sizes ∙ ap (λ (hs : List Fields). sum_by operation_len hs) all,
      s.marks ∙ ap (λ (hs : List Fields). list_any is_unmount hs) all,
    )
