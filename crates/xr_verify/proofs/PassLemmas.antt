-- Records of a leaf, passed one after the other.
use Rattle.std.proofs.Common.{◌≡◌, ◌↔◌, ℕ, suc, ◌+◌, ◌<◌, ◌≤◌, true, IfSome, Option, Some, None, List, [], ◌∷◌, ◌++◌, length, drop, get_or, sym, ap, ◌∙◌, subst, arith, drop-cons, ⊎_elim}
use Rattle.std.proofs.Math.Seq.{get_or-append_seam}
use Rattle.std.proofs.lemmas.Bool.{cases_eq}
use Rattle.std.proofs.lemmas.List.{append-nil, append_assoc, drop_all, get_or_append_left, length-append}
use Rattle.std.proofs.lemmas.List.Elements.{All-push}
use Rattle.std.proofs.lemmas.List.Quantifiers.{all_pairs_push}
use Rattle.std.specs.List.{All, AllPairs, last_or}
use Rattle.std.specs.declared.cmp.Ordering.TheVariants.{Less}
use Rattle.xr_kinds.specs.Form.{Form, IsForm}
use Rattle.xr_verify.specs.Ledger.{ArePassed, AgreesWithAll, Climb, IsNext}
use Rattle.xr_verify.proofs.LastLemmas.{last_or-append, last_or-nth}

pub next_dropped : {X : Type 0} (xs : List X) (k : ℕ) (r : X) → k < length xs → ((d : X) → r ≡ get_or xs k d) → drop k xs ≡ r ∷ drop (k + 1) xs
next_dropped xs k r within is =
    drop-cons xs k r within ∙ ap (λ (x : _). x ∷ drop (suc k) xs) (sym (is r)) ∙ ap (λ (m : ℕ). r ∷ drop m xs) (let e : suc k ≡ k + 1 = omega arith in e)

-- from one record to the next
pub climbs_on : {X : Type 0} (form : Form X) (before : Option X) (xs : List X) (k : ℕ) (r : X) → k < length xs → ((d : X) → r ≡ get_or xs k d)
    → Climb form before (drop k xs) ↔ (IfSome before (λ x. form.order x r ≡ Less) × Climb form (Some r) (drop (k + 1) xs))
climbs_on form before xs k r within is =
    let next = next_dropped xs k r within is in
    (λ climb. subst (Climb form before) next climb, λ both. subst (Climb form before) (sym next) both)

pub climbed : {X : Type 0} (form : Form X) (before : Option X) (xs : List X) (k : ℕ) → length xs ≤ k → Climb form before (drop k xs)
climbed form before xs k past = subst (Climb form before) (sym (drop_all k xs past)) tt

-- a record that is above the last one is above all
pub above_all : {X : Type 0} (form : Form X) (laws : IsForm form) (noted : List X) (r : X) → ArePassed form noted
    → IfSome (last_or None noted) (λ x. form.order x r ≡ Less) → All (λ (x : X). form.order x r ≡ Less) noted
above_all form laws [] r passed above k d within = absurd (omega (arith, within))
above_all form laws (x ∷ xs) r passed above k d within =
    let end : ℕ = length xs in
    let last : form.order (get_or (x ∷ xs) end d) r ≡ Less = subst (λ (o : Option _). IfSome o (λ y. form.order y r ≡ Less)) (last_or-nth None x xs d) above in
    ⊎_elim
    (λ (same : k ≡ end). ap (λ (i : ℕ). form.order (get_or (x ∷ xs) i d) r) same ∙ last)
    (λ (other : k ≡ end → ⊥).
    laws.total.trans _ _ _ (passed.ascend k end d (omega (arith, within, other)) (omega arith)) last)
    (cases_eq k end)

-- so the next record may come
pub comes_next : {X : Type 0} (form : Form X) (laws : IsForm form) (noted : List X) (r : X) → ArePassed form noted
    → IfSome (last_or None noted) (λ x. form.order x r ≡ Less) → form.is_valid r ≡ true → IsNext form noted r
comes_next form laws noted r passed above good = record { passed = passed; valid = good; above = above_all form laws noted r passed above }

pub passed_next : {X : Type 0} (form : Form X) (noted : List X) (r : X) → IsNext form noted r → AgreesWithAll form noted r → ArePassed form (noted ++ r ∷ [])
passed_next form noted r next agrees = record {
  valid = All-push (λ (x : _). form.is_valid x ≡ true) noted r next.passed.valid next.valid;
  ascend = all_pairs_push (λ (a b : _). form.order a b ≡ Less) noted r next.passed.ascend next.above;
  agree = all_pairs_push (λ (a b : _). form.agree a b ≡ true) noted r next.passed.agree agrees;
}

-- of records that keep the rules each one agrees with those before it, and is above them
pub pair_after : {X : Type 0} (P : X → X → Type 0) (noted rest : List X) (r : X) → AllPairs P (noted ++ (r ∷ rest)) → All (λ (x : X). P x r) noted
pair_after {X = X} P noted rest r pairs k d within =
    let both = pairs k (length noted) d within (omega (arith, length-append noted (r ∷ rest))) in
    subst (λ (x : X). P x r) (get_or_append_left noted (r ∷ rest) d k within)
    (subst (P (get_or (noted ++ (r ∷ rest)) k d)) (get_or-append_seam noted r rest d) both)

below_last : {X : Type 0} (form : Form X) (noted : List X) (r : X) → All (λ (x : X). form.order x r ≡ Less) noted
    → IfSome (last_or None noted) (λ x. form.order x r ≡ Less)
below_last form [] r all = tt
below_last form (x ∷ xs) r all =
    subst (λ (o : Option _). IfSome o (λ y. form.order y r ≡ Less)) (sym (last_or-nth None x xs x)) (all (length xs) x (omega arith))

pub climbs_if : {X : Type 0} (form : Form X) (noted records : List X) → AllPairs (λ (a b : X). form.order a b ≡ Less) (noted ++ records)
    → Climb form (last_or None noted) records
climbs_if form noted [] pairs = tt
climbs_if form noted (r ∷ rest) pairs =
    let seam : noted ++ (r ∷ []) ++ rest ≡ noted ++ (r ∷ rest) = append_assoc noted (r ∷ []) rest in
    let on = climbs_if form (noted ++ r ∷ []) rest (subst (AllPairs (λ (a b : _). form.order a b ≡ Less)) (sym seam) pairs) in (
      below_last form noted r (pair_after (λ (a b : _). form.order a b ≡ Less) noted rest r pairs),
      subst (λ (o : Option _). Climb form o rest) (last_or-append None noted (r ∷ [])) on,
    )

-- where a leaf's first k records are passed
pub record AreMerged {X L : Type 0} (form : Form X) (Notes : L → List X → Type 0) (ledger : L) (noted records : List X) (k : ℕ) : Type 0 where
  pub past : List X
  pub notes : Notes ledger past
  pub passed : ArePassed form past
  pub climb : Climb form (last_or None past) (drop k records)
  pub same : past ++ drop k records ≡ noted ++ records

module _ {X L : Type 0} (form : Form X) (laws : IsForm form) (Notes : L → List X → Type 0) (ledger : L) (noted records : List X) (k : ℕ) (merged : AreMerged form Notes ledger noted records k) where
  pub merged_all : length records ≤ k → Notes ledger (noted ++ records) × ArePassed form (noted ++ records)
  merged_all past =
      let all : merged.past ≡ noted ++ records =
      sym (append-nil merged.past) ∙ ap (λ (xs : List X). merged.past ++ xs) (sym (drop_all k records past)) ∙ merged.same in
      (subst (Notes ledger) all merged.notes, subst (ArePassed form) all merged.passed)

  module _ (r : X) (within : k < length records) (is : (d : X) → r ≡ get_or records k d) (good : form.is_valid r ≡ true) where
    whole : merged.past ++ (r ∷ drop (k + 1) records) ≡ noted ++ records
    whole = ap (λ (xs : List X). merged.past ++ xs) (sym (next_dropped records k r within is)) ∙ merged.same

    pub merged_next : IsNext form merged.past r
    merged_next = comes_next form laws merged.past r merged.passed ((climbs_on form (last_or None merged.past) records k r within is).0 merged.climb).0 good

    pub merged_not : ArePassed form (noted ++ records) → AgreesWithAll form merged.past r
    merged_not passed =
        pair_after (λ (a b : X). form.agree a b ≡ true) merged.past (drop (k + 1) records) r (subst (ArePassed form) (sym whole) passed).agree

    pub merged_more : (now : L) → AgreesWithAll form merged.past r → Notes now (merged.past ++ r ∷ []) → AreMerged form Notes now noted records (k + 1)
    merged_more now agrees notes = record {
      past = merged.past ++ r ∷ [];
      notes = notes;
      passed = passed_next form merged.past r merged_next agrees;
      climb = subst (λ (o : Option X). Climb form o (drop (k + 1) records)) (sym (last_or-append None merged.past (r ∷ [])))
          ((climbs_on form (last_or None merged.past) records k r within is).0 merged.climb).1;
      same = append_assoc merged.past (r ∷ []) (drop (k + 1) records) ∙ whole;
    }
