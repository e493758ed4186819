-- From the first of what was found to the field that is named.
use Rattle.std.proofs.Common.{◌≡◌, ◌⊎◌, ℕ, ◌+◌, ◌-◌, ◌<◌, ◌≤◌, Bool, List, Option, Some, None, true, false, length, take, drop, get_or, refl, sym, ap, subst, ◌∙◌, inl, inr, arith}
use Rattle.std.specs.Prelude.{◌≢◌, IsTrue, IsNone, IfSome}
use Rattle.std.proofs.lemmas.Bool.{cases_lt}
use Rattle.std.proofs.lemmas.List.{append-nil, get_or-drop, get_or-take, length-drop, length-take-le}
use Rattle.xr_headers.specs.FirstWrong.{IsFirst, IsNamedPlace, IsWrong}
use Rattle.xr_headers.specs.Padded.{IsZeroPadded}
use Rattle.xr_headers.specs.PaddedLaws.{zero_padded_is}
use Rattle.xr_base.specs.Checksum.{with_crc}

-- what was found is the first of a kind, or there is none of it
pub record Finds (found : Option ℕ) (Fact : ℕ → Type 0) : Type 0 where
  pub first : IfSome found (IsFirst Fact)
  pub none : IsNone found → (k : ℕ) → Fact k → ⊥

-- the found place stands for all of its kind
none_widened : (found : Option ℕ) (Fact Other : ℕ → Type 0) (n : ℕ) → Finds found Fact
    → ((k : ℕ) → k < n → ((found ≡ Some k) ⊎ Other k) → ⊥) → (k : ℕ) → k < n → (Fact k ⊎ Other k) → ⊥
none_widened None Fact Other n finds before k below (inl fact) = finds.none refl k fact
none_widened (Some first) Fact Other n finds before k below (inl fact) = elim (cases_lt k first) [
  | inl earlier ↦ finds.first.none_before k earlier fact
  | inr later ↦ before first (omega arith) (inl refl)
]
none_widened found Fact Other n finds before k below (inr other) = before k below (inr other)

here_widened : (found : Option ℕ) (Fact Other : ℕ → Type 0) (place : ℕ) → Finds found Fact → ((found ≡ Some place) ⊎ Other place) → Fact place ⊎ Other place
here_widened found Fact Other place finds (inr other) = inr other
here_widened None Fact Other place finds (inl is) = let clash = is in absurd (cc)
here_widened (Some first) Fact Other place finds (inl is) = let same : first ≡ place = cc in inl (subst Fact same finds.first.here)

pub first_widened : (found : Option ℕ) (Fact Other : ℕ → Type 0) (place : ℕ) → Finds found Fact
    → IsFirst (λ k. (found ≡ Some k) ⊎ Other k) place → IsFirst (λ k. Fact k ⊎ Other k) place
first_widened found Fact Other place finds first = record {
  here = here_widened found Fact Other place finds first.here;
  none_before = none_widened found Fact Other place finds first.none_before;
}

swapped : (A B : ℕ → Type 0) (place : ℕ) → IsFirst (λ k. A k ⊎ B k) place → IsFirst (λ k. B k ⊎ A k) place
swapped A B place first = record {
  here = elim first.here [ inl a ↦ inr a | inr b ↦ inl b ];
  none_before = λ k below either. elim either [ inl b ↦ first.none_before k below (inr b) | inr a ↦ first.none_before k below (inl a) ];
}

-- two findings, of which the earlier is taken
pub both_widened : (one two : Option ℕ) (Fact : ℕ → Type 0) (place : ℕ) → Finds two Fact
    → IsFirst (λ k. (one ≡ Some k) ⊎ (two ≡ Some k)) place → IsFirst (λ k. (one ≡ Some k) ⊎ Fact k) place
both_widened one two Fact place finds first =
    swapped Fact (λ k. one ≡ Some k) place (first_widened two Fact (λ k. one ≡ Some k) place finds (swapped (λ k. one ≡ Some k) (λ k. two ≡ Some k) place first))

-- the magic, the checksum and the first wrong place give the place that is named
pub named_from : (result place : Option ℕ) (right : Bool) (end : ℕ) (bytes : List ℕ) (Wrong : ℕ → Type 0)
    → IfSome result (λ named. ((place ≡ Some named) × ((named < 4) ⊎ IsTrue right)) ⊎ ((named ≡ end) × (IsTrue right → ⊥) × IfSome place (λ first. 4 ≤ first)))
    → Finds place Wrong → (IsTrue right → bytes ≡ with_crc end bytes) → (bytes ≡ with_crc end bytes → IsTrue right)
    → IfSome result (IsNamedPlace bytes end Wrong)
named_from None place right end bytes Wrong named finds holds given = tt
named_from (Some n) None right end bytes Wrong (inl (is, magic)) finds holds given = let clash = is in absurd (cc)
named_from (Some n) (Some first) right end bytes Wrong (inl (is, magic)) finds holds given =
    let same : first ≡ n = cc in
    let sum : (n < 4) ⊎ (bytes ≡ with_crc end bytes) = elim magic [ inl low ↦ inl low | inr known ↦ inr (holds known) ] in
    inl (subst (IsFirst Wrong) same finds.first, sum)
named_from (Some n) None right end bytes Wrong (inr (is, differs, low)) finds holds given =
    inr (is, (λ sum. differs (given sum)), (λ k below wrong. finds.none refl k wrong))
named_from (Some n) (Some first) right end bytes Wrong (inr (is, differs, low)) finds holds given =
    inr (is, (λ sum. differs (given sum)), (λ k below wrong. finds.first.none_before k (omega arith) wrong))

-- what a comparison of all bytes below the checksum finds
pub difference_finds : (found : Option ℕ) (bytes wanted : List ℕ) (end : ℕ) → end ≤ length bytes
    → (IsNone found → (k : ℕ) → k < length (take end bytes) → get_or (take end bytes) k 0 ≡ get_or wanted k 0)
    → IfSome found (λ place. place < length (take end bytes)) → IfSome found (λ place. get_or (take end bytes) place 0 ≢ get_or wanted place 0)
    → IfSome found (λ place. (k : ℕ) → k < place → get_or (take end bytes) k 0 ≡ get_or wanted k 0)
    → Finds found (λ k. (k < end) × (get_or bytes k 0 ≢ get_or wanted k 0))
difference_finds None bytes wanted end fits none within differs first =
    let cut = length-take-le end bytes fits in
    record { first = tt; none = λ known k wrong. wrong.1 (sym (get_or-take end bytes k 0 wrong.0) ∙ none known k (let b = wrong.0 in omega arith)) }
difference_finds (Some place) bytes wanted end fits none within differs first =
    let cut = length-take-le end bytes fits in
    let below : place < end = omega arith in
    record {
      first = record {
        here = (below, (λ same. differs (get_or-take end bytes place 0 below ∙ same)));
        none_before = λ k before wrong. wrong.1 (sym (get_or-take end bytes k 0 wrong.0) ∙ first k before);
      };
      none = λ given k wrong. let clash : true ≡ false = given in absurd (cc);
    }

pub earlier_finds : (place broken found : Option ℕ) (Wrong : ℕ → Type 0) → (IsNone place → IsNone broken × IsNone found)
    → IfSome place (IsFirst (λ k. (broken ≡ Some k) ⊎ (found ≡ Some k))) → Finds found Wrong → Finds place (λ k. (broken ≡ Some k) ⊎ Wrong k)
earlier_finds None broken found Wrong none first finds = record {
  first = tt;
  none = λ known k either. elim either [
    | inl is ↦ let clash : true ≡ false = subst IsNone is (none refl).0 in absurd (cc)
    | inr wrong ↦ finds.none (none refl).1 k wrong
  ];
}
earlier_finds (Some place) broken found Wrong none first finds = record {
  first = both_widened broken found Wrong place finds first;
  none = λ given k either. let clash : true ≡ false = given in absurd (cc);
}

-- the place that a header's comparison names, for the fields of the value that its bytes hold
pub named_widened : (found : Option ℕ) (OutOfRange : ℕ → Type 0) (bytes wanted : List ℕ) (end place : ℕ) → Finds found OutOfRange
    → IsNamedPlace bytes end (IsWrong bytes end wanted (λ k. found ≡ Some k)) place → IsNamedPlace bytes end (IsWrong bytes end wanted OutOfRange) place
named_widened found OutOfRange bytes wanted end place finds (inl (first, sum)) =
    inl (first_widened found OutOfRange (λ k. (k < end) × (get_or bytes k 0 ≢ get_or wanted k 0)) place finds first, sum)
named_widened found OutOfRange bytes wanted end place finds (inr (is, sum, magic)) =
    inr (is, sum, none_widened found OutOfRange (λ k. (k < end) × (get_or bytes k 0 ≢ get_or wanted k 0)) 4 finds magic)

pub field_named : (n end size : ℕ) (found : Option ℕ) (OutOfRange : ℕ → Type 0) (bytes wanted fields : List ℕ) (place : ℕ) → length bytes ≡ n → end + 4 ≡ n
    → IsZeroPadded size size fields wanted → Finds found OutOfRange
    → IsNamedPlace bytes (length bytes - 4) (IsWrong bytes (length bytes - 4) wanted (λ k. found ≡ Some k)) place
    → IsNamedPlace bytes end (IsWrong bytes end fields OutOfRange) place
field_named n end size found OutOfRange bytes wanted fields place long ends laid finds named =
    let same_end : length bytes - 4 ≡ end = omega arith in
    let same : wanted ≡ fields = laid.is ∙ zero_padded_is size 0 fields (let l = laid.long in omega arith) ∙ append-nil fields in
    let Ends : ℕ → Type 0 = λ (e : ℕ). IsNamedPlace bytes e (IsWrong bytes e wanted (λ k. found ≡ Some k)) place in
    let Wants : List ℕ → Type 0 = λ (w : List ℕ). IsNamedPlace bytes end (IsWrong bytes end w (λ k. found ≡ Some k)) place in
    named_widened found OutOfRange bytes fields end place finds (subst Wants same (subst Ends same_end named))

-- the first byte that isn't zero after the first k
pub first_after : (n k place : ℕ) (bytes rest : List ℕ) → rest ≡ drop k bytes → length bytes ≡ n → place < length rest → get_or rest place 0 ≢ 0
    → ((j : ℕ) → j < place → get_or rest j 0 ≡ 0) → IsFirst (λ p. (k ≤ p) × (p < n) × (get_or bytes p 0 ≢ 0)) (k + place)
first_after n k place bytes rest parts long within differs zeros =
    let reads : (j : ℕ) → get_or rest j 0 ≡ get_or bytes (k + j) 0 = λ (j : ℕ). ap (λ (xs : List ℕ). get_or xs j 0) parts ∙ get_or-drop k bytes j 0 in
    let long_rest : length rest ≡ n - k = ap length parts ∙ length-drop k bytes ∙ ap (λ (m : ℕ). m - k) long in
    record {
      here = (omega arith, omega arith, (λ same. differs (reads place ∙ same)));
      none_before = λ p before wrong.
          let after : k ≤ p = wrong.0 in
          let same : k + (p - k) ≡ p = omega arith in
          wrong.2 (ap (λ (q : ℕ). get_or bytes q 0) (sym same) ∙ sym (reads (p - k)) ∙ zeros (p - k) (omega arith));
    }
