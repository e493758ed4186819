-- What a list of records holds with one more, one less, or another in the place of one, how long it is then, what is known of its
-- records and of each pair of them, and that the rules of a tree hold for it.
use Rattle.std.proofs.Common.{◌≡◌, ◌≢◌, ◌⊎◌, ℕ, zero, suc, ◌+◌, ◌<◌, ◌≤◌, true, false, List, [], ◌∷◌, length, get_or, refl, sym, ap, ◌∙◌, subst, inl, inr, ⊎_elim, arith}
use Rattle.std.proofs.Math.Logic.{⊎_map}
use Rattle.std.proofs.lemmas.Bool.{cases_Bool, cases_order, cond_both}
use Rattle.std.proofs.lemmas.Cmp.{tied_itself}
use Rattle.std.proofs.lemmas.List.{get_or_default}
use Rattle.std.proofs.lemmas.List.Edits.{length-remove}
use Rattle.std.proofs.lemmas.List.Elements.{All-cons, All-contains, All-tail, Contains-append_right, Contains-get_or}
use Rattle.std.proofs.lemmas.List.Kept.{AllPairs-cons}
use Rattle.std.proofs.lemmas.List.Quantifiers.{all_pairs_remove}
use Rattle.std.specs.Cmp.{IsTotalOrder}
use Rattle.std.specs.List.{All, AllPairs, Contains, remove}
use Rattle.std.specs.Ordering.{is_eq, is_lt, ordering_reverse}
use Rattle.std.specs.declared.cmp.Ordering.{Ordering}
use Rattle.std.specs.declared.cmp.Ordering.TheVariants.{Less, Equal, Greater}
use Rattle.xr_block.specs.Tree.{AreRecords}
use Rattle.xr_change.specs.SetRules.{KeepsPlace, MayInsert, MayReplace, RemovalKeepsRules}
use Rattle.xr_change.specs.Sets.{Gains, Loses, Swaps, inserted, removed, replaced}
use Rattle.xr_kinds.specs.Form.{Form, IsForm}

first_in : {X : Type 0} (x : X) (xs : List X) → Contains (x ∷ xs) x
first_in x xs = (0, omega arith, refl)

later_in : {X : Type 0} (x : X) (xs : List X) (y : X) → Contains xs y → Contains (x ∷ xs) y
later_in x xs y = Contains-append_right (x ∷ []) xs y

in_cases : {X : Type 0} (x : X) (xs : List X) (y : X) → Contains (x ∷ xs) y → (x ≡ y) ⊎ Contains xs y
in_cases x xs y (zero, within, is) = inl is
in_cases x xs y (suc k, within, is) = inr (k, omega (arith, within), is)

all_in : {X : Type 0} (P : X → Type 0) (xs : List X) → ((x : X) → Contains xs x → P x) → All P xs
all_in P xs each k d within = each (get_or xs k d) (Contains-get_or xs k d within)

-- what is known of each pair is known of two that are different, in one order or the other
pub pair_in : {X : Type 0} (P : X → X → Type 0) (xs : List X) (x y : X) → AllPairs P xs → Contains xs x → Contains xs y
    → (x ≡ y) ⊎ (P x y ⊎ P y x)
pair_in P xs x y pairs (i, before, is_x) (j, within, is_y) =
    let at_x : get_or xs i x ≡ x = is_x in
    let at_y : get_or xs j x ≡ y = get_or_default xs j x y within ∙ is_y in
    ⊎_elim
    (λ (same : i ≡ j). inl (sym is_x ∙ ap (λ (k : ℕ). get_or xs k x) same ∙ at_y))
    (λ (other : (i < j) ⊎ (j < i)). inr (⊎_elim
    (λ (less : i < j). inl (subst (λ (z : _). P z y) at_x (subst (λ (z : _). P (get_or xs i x) z) at_y (pairs i j x less within))))
    (λ (more : j < i). inr (subst (λ (z : _). P y z) at_x (subst (λ (z : _). P z (get_or xs i x)) at_y (pairs j i x more before))))
    other))
    (cases_order i j)

head_pair : {X : Type 0} (P : X → X → Type 0) (x : X) (xs : List X) (y : X) → AllPairs P (x ∷ xs) → Contains xs y → P x y
head_pair P x xs y pairs within =
    All-contains (P x) xs y (λ k d inside. pairs 0 (suc k) d (omega arith) (omega (arith, inside))) within

rest_pairs : {X : Type 0} (P : X → X → Type 0) (x : X) (xs : List X) → AllPairs P (x ∷ xs) → AllPairs P xs
rest_pairs P x xs pairs i j d before within = pairs (suc i) (suc j) d (omega (arith, before)) (omega (arith, within))

is_less : (o : Ordering) → is_lt o ≡ true → o ≡ Less
is_less Less low = refl
is_less Equal low = cc
is_less Greater low = cc

pub is_equal : (o : Ordering) → is_eq o ≡ true → o ≡ Equal
is_equal Less tied = cc
is_equal Equal tied = refl
is_equal Greater tied = cc

not_lower : (o : Ordering) → (o ≡ Less → ⊥) → is_lt o ≡ false
not_lower Less other = absurd (other refl)
not_lower Equal other = refl
not_lower Greater other = refl

lifted : (o : Ordering) → is_lt o ≡ false → is_eq o ≡ false → o ≡ Greater
lifted Less low tied = cc
lifted Equal low tied = cc
lifted Greater low tied = refl

-- for any order
module _ {X : Type 0} (order : X → X → Ordering) (r : X) where
  -- one more
  pub inserted_has : (xs : List X) → Contains (inserted order r xs) r
  unfolding inserted
  inserted_has [] = first_in r []
  inserted_has (x ∷ xs) =
      cond_both (is_lt (order x r)) (x ∷ inserted order r xs) (r ∷ x ∷ xs) (λ (ys : List X). Contains ys r)
      (λ low. later_in x (inserted order r xs) r (inserted_has xs)) (λ low. first_in r (x ∷ xs))

  pub inserted_keeps : (xs : List X) (y : X) → Contains xs y → Contains (inserted order r xs) y
  unfolding inserted
  inserted_keeps [] y within = absurd (omega (arith, within.1))
  inserted_keeps (x ∷ xs) y within =
      cond_both (is_lt (order x r)) (x ∷ inserted order r xs) (r ∷ x ∷ xs) (λ (ys : List X). Contains ys y)
      (λ low. ⊎_elim
      (λ (same : x ≡ y). subst (Contains (x ∷ inserted order r xs)) same (first_in x (inserted order r xs)))
      (λ (rest : Contains xs y). later_in x (inserted order r xs) y (inserted_keeps xs y rest))
      (in_cases x xs y within))
      (λ low. later_in r (x ∷ xs) y within)

  pub inserted_only : (xs : List X) (y : X) → Contains (inserted order r xs) y → (y ≡ r) ⊎ Contains xs y
  unfolding inserted
  inserted_only [] y within = ⊎_map sym (λ rest. rest) (in_cases r [] y within)
  inserted_only (x ∷ xs) y within =
      cond_both (is_lt (order x r)) (x ∷ inserted order r xs) (r ∷ x ∷ xs) (λ (ys : List X). Contains ys y → (y ≡ r) ⊎ Contains (x ∷ xs) y)
      (λ low found. ⊎_elim
      (λ (same : x ≡ y). inr (subst (Contains (x ∷ xs)) same (first_in x xs)))
      (λ (rest : Contains (inserted order r xs) y). ⊎_map (λ new. new) (later_in x xs y) (inserted_only xs y rest))
      (in_cases x (inserted order r xs) y found))
      (λ low found. ⊎_map sym (λ rest. rest) (in_cases r (x ∷ xs) y found))
      within

  pub inserted_gains : (xs : List X) → Gains (Contains xs) r (Contains (inserted order r xs))
  inserted_gains xs y = (
    inserted_only xs y,
    ⊎_elim (λ (new : y ≡ r). subst (Contains (inserted order r xs)) (sym new) (inserted_has xs)) (inserted_keeps xs y),
  )

  pub inserted_length : (xs : List X) → length (inserted order r xs) ≡ length xs + 1
  unfolding inserted
  inserted_length [] = refl
  inserted_length (x ∷ xs) =
      cond_both (is_lt (order x r)) (x ∷ inserted order r xs) (r ∷ x ∷ xs) (λ (ys : List X). length ys ≡ suc (length xs) + 1)
      (λ low. omega (arith, inserted_length xs)) (λ low. omega arith)

  pub inserted_all : (P : X → Type 0) (xs : List X) → All P xs → P r → All P (inserted order r xs)
  inserted_all P xs all one = all_in P (inserted order r xs) (λ y within. ⊎_elim
      (λ (new : y ≡ r). subst P (sym new) one)
      (All-contains P xs y all)
      (inserted_only xs y within))

  -- one less
  removed_keeps : (xs : List X) (y : X) → Contains xs y → is_eq (order y r) ≡ false → Contains (removed order r xs) y
  unfolding removed
  removed_keeps [] y within untied = absurd (omega (arith, within.1))
  removed_keeps (x ∷ xs) y within untied =
      cond_both (is_eq (order x r)) xs (x ∷ removed order r xs) (λ (ys : List X). Contains ys y)
      (λ tied. ⊎_elim
      (λ (same : x ≡ y). let lie : is_eq (order x r) ≡ false = ap (λ (z : X). is_eq (order z r)) same ∙ untied in absurd cc)
      (λ (rest : Contains xs y). rest)
      (in_cases x xs y within))
      (λ other. ⊎_elim
      (λ (same : x ≡ y). subst (Contains (x ∷ removed order r xs)) same (first_in x (removed order r xs)))
      (λ (rest : Contains xs y). later_in x (removed order r xs) y (removed_keeps xs y rest untied))
      (in_cases x xs y within))

  -- what holds of a list and of it without any one of its records
  removed_is : (P : List X → Type 0) (xs : List X) → P xs → ((k : ℕ) → k < length xs → P (remove xs k)) → P (removed order r xs)
  unfolding removed
  removed_is P [] same less = same
  removed_is P (x ∷ xs) same less =
      cond_both (is_eq (order x r)) xs (x ∷ removed order r xs) P (λ tied. less 0 (omega arith))
      (λ other. removed_is (λ (ys : List X). P (x ∷ ys)) xs same (λ k within. less (suc k) (omega (arith, within))))

  pub removed_all : (P : X → Type 0) (xs : List X) → All P xs → All P (removed order r xs)
  unfolding removed
  removed_all P [] all = all
  removed_all P (x ∷ xs) all =
      let rest = All-tail P x xs all in
      cond_both (is_eq (order x r)) xs (x ∷ removed order r xs) (All P) (λ tied. rest)
      (λ other. All-cons P x (removed order r xs) (all 0 x (omega arith)) (removed_all P xs rest))

  pub removed_pairs : (P : X → X → Type 0) (xs : List X) → AllPairs P xs → AllPairs P (removed order r xs)
  removed_pairs P xs pairs = removed_is (AllPairs P) xs pairs (λ k within. all_pairs_remove P xs k within pairs)

  pub removed_at_most : (xs : List X) → length (removed order r xs) ≤ length xs
  removed_at_most xs =
      removed_is (λ (ys : List X). length ys ≤ length xs) xs (omega arith) (λ k within. omega (arith, length-remove xs k within))

  -- another in the place of one
  pub replaced_length : (new : X) (xs : List X) → length (replaced order r new xs) ≡ length xs
  unfolding replaced
  replaced_length new [] = refl
  replaced_length new (x ∷ xs) =
      cond_both (is_eq (order x r)) (new ∷ xs) (x ∷ replaced order r new xs) (λ (ys : List X). length ys ≡ suc (length xs))
      (λ tied. refl) (λ other. ap suc (replaced_length new xs))

  pub replaced_all : (P : X → Type 0) (new : X) (xs : List X) → All P xs → P new → All P (replaced order r new xs)
  unfolding replaced
  replaced_all P new [] all one = all
  replaced_all P new (x ∷ xs) all one =
      let rest = All-tail P x xs all in
      cond_both (is_eq (order x r)) (new ∷ xs) (x ∷ replaced order r new xs) (All P) (λ tied. All-cons P new xs one rest)
      (λ other. All-cons P x (replaced order r new xs) (all 0 x (omega arith)) (replaced_all P new xs rest one))

  replaced_keeps : (new : X) (xs : List X) (y : X) → Contains xs y → is_eq (order y r) ≡ false → Contains (replaced order r new xs) y
  unfolding replaced
  replaced_keeps new [] y within untied = absurd (omega (arith, within.1))
  replaced_keeps new (x ∷ xs) y within untied =
      cond_both (is_eq (order x r)) (new ∷ xs) (x ∷ replaced order r new xs) (λ (ys : List X). Contains ys y)
      (λ tied. ⊎_elim
      (λ (same : x ≡ y). let lie : is_eq (order x r) ≡ false = ap (λ (z : X). is_eq (order z r)) same ∙ untied in absurd cc)
      (λ (rest : Contains xs y). later_in new xs y rest)
      (in_cases x xs y within))
      (λ other. ⊎_elim
      (λ (same : x ≡ y). subst (Contains (x ∷ replaced order r new xs)) same (first_in x (replaced order r new xs)))
      (λ (rest : Contains xs y). later_in x (replaced order r new xs) y (replaced_keeps new xs y rest untied))
      (in_cases x xs y within))

-- for a total order
module _ {X : Type 0} (order : X → X → Ordering) (total : IsTotalOrder order) where
  abbrev Ascend : List X → Type 0
  Ascend xs = AllPairs (λ (x y : X). order x y ≡ Less) xs

  rest_ascend : (x : X) (xs : List X) → Ascend (x ∷ xs) → Ascend xs
  rest_ascend x xs ascend = rest_pairs (λ (a b : X). order a b ≡ Less) x xs ascend

  head_less : (x : X) (xs : List X) (y : X) → Ascend (x ∷ xs) → Contains xs y → order x y ≡ Less
  head_less x xs y ascend within = head_pair (λ (a b : X). order a b ≡ Less) x xs y ascend within

  not_tied : (x y : X) → order x y ≡ Less → is_eq (order y x) ≡ false
  not_tied x y less = let back = total.antisymm y x in let more : order y x ≡ Greater = cc in ap is_eq more

  -- a record after none that isn't tied with it is below it
  above : (x r : X) → is_lt (order x r) ≡ false → is_eq (order x r) ≡ false → order r x ≡ Less
  above x r low tied = let greater = lifted (order x r) low tied in let back = total.antisymm r x in cc

  -- of two records that aren't tied one is below the other
  pub untied_cases : (x y : X) → is_eq (order x y) ≡ false → (order x y ≡ Less) ⊎ (order y x ≡ Less)
  untied_cases x y untied = ⊎_map (is_less (order x y)) (λ low. above x y low untied) (cases_Bool (is_lt (order x y)))

  tied_differ : (x y : X) → is_eq (order x y) ≡ false → x ≢ y
  tied_differ x y untied same =
      let lie : is_eq Equal ≡ false = ap is_eq (sym (tied_itself total y)) ∙ ap (λ (z : X). is_eq (order z y)) (sym same) ∙ untied in cc

  -- two records of a list that ascends aren't tied
  tied_same : (xs : List X) (x y : X) → Ascend xs → Contains xs x → Contains xs y → x ≢ y → is_eq (order x y) ≡ false
  tied_same xs x y ascend has_x has_y differ = ⊎_elim
      (λ (same : x ≡ y). absurd (differ same))
      (⊎_elim (λ (less : order x y ≡ Less). ap is_eq less) (not_tied y x))
      (pair_in (λ (a b : X). order a b ≡ Less) xs x y ascend has_x has_y)

  -- none after a tied record is tied
  untied_after : (x : X) (xs : List X) (y r : X) → Ascend (x ∷ xs) → Contains xs y → is_eq (order x r) ≡ true → is_eq (order y r) ≡ false
  untied_after x xs y r ascend within tied =
      not_tied r y (sym (total.congr x r y (is_equal (order x r) tied)) ∙ head_less x xs y ascend within)

  -- one more
  module _ (r : X) where
    -- after a record that isn't below, none is
    still_after : (x : X) (xs : List X) (y : X) → Ascend (x ∷ xs) → Contains (x ∷ xs) y → is_lt (order x r) ≡ false → is_lt (order y r) ≡ false
    still_after x xs y ascend within test = ⊎_elim
        (λ (same : x ≡ y). ap (λ (z : X). is_lt (order z r)) (sym same) ∙ test)
        (λ (rest : Contains xs y). not_lower (order y r) (λ less.
        let lie : is_lt (order x r) ≡ true = ap is_lt (total.trans x y r (head_less x xs y ascend rest) less) in absurd cc))
        (in_cases x xs y within)

    pub inserted_pairs : (P : X → X → Type 0) (xs : List X) → AllPairs P xs → Ascend xs → ((x : X) → Contains xs x → order x r ≡ Less → P x r)
        → ((x : X) → Contains xs x → is_lt (order x r) ≡ false → P r x) → AllPairs P (inserted order r xs)
    unfolding inserted
    inserted_pairs P [] pairs ascend below after = AllPairs-cons P r [] (λ k d within. absurd (omega (arith, within))) pairs
    inserted_pairs P (x ∷ xs) pairs ascend below after =
        cond_both (is_lt (order x r)) (x ∷ inserted order r xs) (r ∷ x ∷ xs) (AllPairs P)
        (λ test. AllPairs-cons P x (inserted order r xs)
        (inserted_all order r (P x) xs (all_in (P x) xs (λ y within. head_pair P x xs y pairs within)) (below x (first_in x xs) (is_less (order x r) test)))
        (inserted_pairs P xs (rest_pairs P x xs pairs) (rest_ascend x xs ascend)
        (λ y within less. below y (later_in x xs y within) less) (λ y within low. after y (later_in x xs y within) low)))
        (λ test. AllPairs-cons P r (x ∷ xs)
        (all_in (P r) (x ∷ xs) (λ y within. after y within (still_after x xs y ascend within test)))
        pairs)

  -- one less
  module _ (r : X) where
    pub removed_only : (xs : List X) (y : X) → Ascend xs → Contains (removed order r xs) y → (y ≢ r) × Contains xs y
    unfolding removed
    removed_only [] y ascend within = absurd (omega (arith, within.1))
    removed_only (x ∷ xs) y ascend within =
        cond_both (is_eq (order x r)) xs (x ∷ removed order r xs) (λ (ys : List X). Contains ys y → (y ≢ r) × Contains (x ∷ xs) y)
        (λ test found. (tied_differ y r (untied_after x xs y r ascend found test), later_in x xs y found))
        (λ test found. ⊎_elim
        (λ (same : x ≡ y). (tied_differ y r (ap (λ (z : X). is_eq (order z r)) (sym same) ∙ test), subst (Contains (x ∷ xs)) same (first_in x xs)))
        (λ (rest : Contains (removed order r xs) y). let more = removed_only xs y (rest_ascend x xs ascend) rest in (more.0, later_in x xs y more.1))
        (in_cases x (removed order r xs) y found))
        within

    pub removed_loses : (xs : List X) → Ascend xs → Contains xs r → Loses (Contains xs) r (Contains (removed order r xs))
    removed_loses xs ascend held y =
        (removed_only xs y ascend, λ kept. removed_keeps order r xs y kept.1 (tied_same xs y r ascend kept.1 held kept.0))

    pub removed_length : (xs : List X) → Contains xs r → length xs ≡ length (removed order r xs) + 1
    unfolding removed
    removed_length [] held = absurd (omega (arith, held.1))
    removed_length (x ∷ xs) held =
        cond_both (is_eq (order x r)) xs (x ∷ removed order r xs) (λ (ys : List X). suc (length xs) ≡ length ys + 1)
        (λ test. omega arith)
        (λ test. ⊎_elim
        (λ (same : x ≡ r). absurd (tied_differ x r test same))
        (λ (rest : Contains xs r). omega (arith, removed_length xs rest))
        (in_cases x xs r held))

  -- another in the place of one
  module _ (old new : X) where
    pub replaced_has : (xs : List X) → Contains xs old → Contains (replaced order old new xs) new
    unfolding replaced
    replaced_has [] within = absurd (omega (arith, within.1))
    replaced_has (x ∷ xs) within =
        cond_both (is_eq (order x old)) (new ∷ xs) (x ∷ replaced order old new xs) (λ (ys : List X). Contains ys new)
        (λ test. first_in new xs)
        (λ test. ⊎_elim
        (λ (same : x ≡ old). absurd (tied_differ x old test same))
        (λ (rest : Contains xs old). later_in x (replaced order old new xs) new (replaced_has xs rest))
        (in_cases x xs old within))

    pub replaced_only : (xs : List X) (y : X) → Ascend xs → Contains (replaced order old new xs) y → (y ≡ new) ⊎ ((y ≢ old) × Contains xs y)
    unfolding replaced
    replaced_only [] y ascend within = absurd (omega (arith, within.1))
    replaced_only (x ∷ xs) y ascend within =
        cond_both (is_eq (order x old)) (new ∷ xs) (x ∷ replaced order old new xs)
        (λ (ys : List X). Contains ys y → (y ≡ new) ⊎ ((y ≢ old) × Contains (x ∷ xs) y))
        (λ test found. ⊎_map sym (λ rest. (tied_differ y old (untied_after x xs y old ascend rest test), later_in x xs y rest)) (in_cases new xs y found))
        (λ test found. ⊎_elim
        (λ (same : x ≡ y). inr (tied_differ y old (ap (λ (z : X). is_eq (order z old)) (sym same) ∙ test), subst (Contains (x ∷ xs)) same (first_in x xs)))
        (λ (rest : Contains (replaced order old new xs) y).
        ⊎_map (λ is. is) (λ more. (more.0, later_in x xs y more.1)) (replaced_only xs y (rest_ascend x xs ascend) rest))
        (in_cases x (replaced order old new xs) y found))
        within

    pub replaced_swaps : (xs : List X) → Ascend xs → Contains xs old → Swaps (Contains xs) old new (Contains (replaced order old new xs))
    replaced_swaps xs ascend held y = (
      replaced_only xs y ascend,
      ⊎_elim
          (λ (is : y ≡ new). subst (Contains (replaced order old new xs)) (sym is) (replaced_has xs held))
          (λ (kept : (y ≢ old) × Contains xs y). replaced_keeps order old new xs y kept.1 (tied_same xs y old ascend kept.1 held kept.0)),
    )

    pub replaced_pairs : (P : X → X → Type 0) (xs : List X) → AllPairs P xs → Ascend xs → Contains xs old → ((x : X) → Contains xs x → order x old ≡ Less → P x new)
        → ((x : X) → Contains xs x → order old x ≡ Less → P new x) → AllPairs P (replaced order old new xs)
    unfolding replaced
    replaced_pairs P [] pairs ascend held below after = absurd (omega (arith, held.1))
    replaced_pairs P (x ∷ xs) pairs ascend held below after =
        cond_both (is_eq (order x old)) (new ∷ xs) (x ∷ replaced order old new xs) (AllPairs P)
        (λ test. AllPairs-cons P new xs
        (all_in (P new) xs (λ y within. after y (later_in x xs y within)
        (sym (total.congr x old y (is_equal (order x old) test)) ∙ head_less x xs y ascend within)))
        (rest_pairs P x xs pairs))
        (λ test. ⊎_elim
        (λ (same : x ≡ old). absurd (tied_differ x old test same))
        (λ (rest : Contains xs old). AllPairs-cons P x (replaced order old new xs)
        (replaced_all order old (P x) new xs (all_in (P x) xs (λ y within. head_pair P x xs y pairs within))
        (below x (first_in x xs) (head_less x xs old ascend rest)))
        (replaced_pairs P xs (rest_pairs P x xs pairs) (rest_ascend x xs ascend) rest
        (λ y within less. below y (later_in x xs y within) less) (λ y within less. after y (later_in x xs y within) less)))
        (in_cases x xs old held))

-- the rules of a tree
pub removed_rules : {X : Type 0} (form : Form X) → RemovalKeepsRules form
removed_rules {X} form r xs rules = record {
  valid = removed_all form.order r (λ (x : X). form.is_valid x ≡ true) xs rules.valid;
  ascend = removed_pairs form.order r (λ (x y : X). form.order x y ≡ Less) xs rules.ascend;
  agree = removed_pairs form.order r (λ (x y : X). form.agree x y ≡ true) xs rules.agree;
  few = omega (arith, removed_at_most form.order r xs, rules.few);
}

module _ {X : Type 0} (form : Form X) (laws : IsForm form) (xs : List X) where
  -- two records are one, or they agree
  pub agree_in : AreRecords form xs → (x y : X) → Contains xs x → Contains xs y → (x ≡ y) ⊎ (form.agree x y ≡ true)
  agree_in rules x y one other = ⊎_map (λ same. same)
      (⊎_elim (λ (agree : form.agree x y ≡ true). agree) (λ (agree : form.agree y x ≡ true). laws.agrees_both x y ∙ agree))
      (pair_in (λ (a b : X). form.agree a b ≡ true) xs x y rules.agree one other)

  pub inserted_rules : (r : X) → AreRecords form xs → MayInsert form xs r → AreRecords form (inserted form.order r xs)
  inserted_rules r rules may = record {
    valid = inserted_all form.order r (λ (x : X). form.is_valid x ≡ true) xs rules.valid may.valid;
    ascend = inserted_pairs form.order laws.total r (λ (x y : X). form.order x y ≡ Less) xs rules.ascend rules.ascend (λ x within less. less)
        (λ x within low. above form.order laws.total x r low (may.other x within));
    agree = inserted_pairs form.order laws.total r (λ (x y : X). form.agree x y ≡ true) xs rules.agree rules.ascend
        (λ x within less. may.agree x within) (λ x within low. laws.agrees_both r x ∙ may.agree x within);
    few = omega (arith, may.few, inserted_length form.order r xs);
  }

  module _ (old new : X) where
    below_differs : (x : X) → form.order x old ≡ Less → x ≢ old
    below_differs x less same = let tied = ap (λ (y : X). form.order y old) same ∙ tied_itself laws.total old in cc

    after_differs : (x : X) → form.order old x ≡ Less → x ≢ old
    after_differs x less same = let tied = ap (form.order old) same ∙ tied_itself laws.total old in cc

    pub replaced_rules : AreRecords form xs → MayReplace form xs old new → AreRecords form (replaced form.order old new xs)
    replaced_rules rules may = record {
      valid = replaced_all form.order old (λ (x : X). form.is_valid x ≡ true) new xs rules.valid may.valid;
      ascend = replaced_pairs form.order laws.total old new (λ (x y : X). form.order x y ≡ Less) xs rules.ascend rules.ascend may.held
          may.place.below may.place.after;
      agree = replaced_pairs form.order laws.total old new (λ (x y : X). form.agree x y ≡ true) xs rules.agree rules.ascend may.held
          (λ x within less. may.agree x within (below_differs x less))
          (λ x within less. laws.agrees_both new x ∙ may.agree x within (after_differs x less));
      few = omega (arith, rules.few, replaced_length form.order old new xs);
    }

-- a record that is tied with another has its place
pub tied_keeps_place : {X : Type 0} (order : X → X → Ordering) → IsTotalOrder order → (xs : List X) (old new : X) → order old new ≡ Equal
    → KeepsPlace order xs old new
tied_keeps_place order total xs old new tied = record {
  below = λ x within less. total.antisymm x new ∙ ap ordering_reverse (sym (total.congr old new x tied)) ∙ sym (total.antisymm x old) ∙ less;
  after = λ x within less. sym (total.congr old new x tied) ∙ less;
}
