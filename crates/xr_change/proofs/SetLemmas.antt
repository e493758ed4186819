-- Records that ascend, with one more, one less, or another in the place of one, by the place where it stands.
use Rattle.std.proofs.Common.{◌≡◌, ℕ, zero, suc, ◌+◌, ◌<◌, Bool, true, false, if◌then◌else◌, List, [], ◌∷◌, ◌++◌, length, get_or, refl, sym, ap, ◌∙◌, arith}
use Rattle.std.proofs.lemmas.Cmp.{tied_itself}
use Rattle.std.proofs.lemmas.List.{get_or-append-add, get_or_append_left, get_or_default, length-append}
use Rattle.std.proofs.lemmas.List.Elements.{All-contains}
use Rattle.std.specs.Cmp.{IsTotalOrder}
use Rattle.std.specs.List.{All, AllPairs, Contains, insert, remove, slice_set}
use Rattle.std.specs.Ordering.{is_eq, is_lt, ordering_reverse}
use Rattle.std.specs.declared.cmp.Ordering.{Ordering}
use Rattle.std.specs.declared.cmp.Ordering.TheVariants.{Less, Equal}
use Rattle.xr_kinds.specs.Form.{Form, IsForm}
use Rattle.xr_block.specs.Tree.{AreRecords}
use Rattle.xr_change.specs.SetLaws.{inserted_has, replaced_has}
use Rattle.xr_change.specs.Sets.{inserted, removed, replaced}
use Rattle.xr_block.specs.Bounds.{IsPlaceOf}

-- the place among all items but the first
pub place_down : {X : Type 0} {test : X → Bool} {x : X} {xs : List X} {k : ℕ} → IsPlaceOf test (x ∷ xs) (suc k) → IsPlaceOf test xs k
place_down place = record {
  within = omega (arith, place.within);
  below = λ i d from within. place.below (suc i) d (omega arith) (omega (arith, within));
  from = λ i d from within. place.from (suc i) d (omega (arith, from)) (omega (arith, within));
}

module _ {X : Type 0} (order : X → X → Ordering) (r : X) where
  abbrev pub IsPlaceFor : List X → ℕ → Type 0
  IsPlaceFor xs k = IsPlaceOf (λ (x : X). is_lt (order x r)) xs k

  pub inserted_at : (xs : List X) (k : ℕ) → IsPlaceFor xs k → insert xs k r ≡ inserted order r xs
  unfolding inserted
  inserted_at [] zero place = refl
  inserted_at [] (suc k) place = absurd (omega (arith, place.within))
  inserted_at (x ∷ xs) zero place = rw (place.from 0 x (omega arith) (omega arith)) refl
  inserted_at (x ∷ xs) (suc k) place = rw (place.below 0 x (omega arith) (omega arith)) (ap (λ (rest : List X). x ∷ rest) (inserted_at xs k (place_down place)))

  not_equal : (o : Ordering) → is_lt o ≡ true → is_eq o ≡ false
  not_equal o less = grind (arith, less)

  -- the record itself stands at the place
  pub removed_at : (xs : List X) (k : ℕ) → IsPlaceFor xs k → k < length xs → ((d : X) → is_eq (order (get_or xs k d) r) ≡ true) → remove xs k ≡ removed order r xs
  unfolding removed
  removed_at [] k place within here = absurd (omega (arith, within))
  removed_at (x ∷ xs) zero place within here = rw (here x) refl
  removed_at (x ∷ xs) (suc k) place within here =
      rw (not_equal (order x r) (place.below 0 x (omega arith) (omega arith))) (ap (λ (rest : List X). x ∷ rest) (removed_at xs k (place_down place) (omega (arith, within)) here))

  pub replaced_at : (new : X) (xs : List X) (k : ℕ) → IsPlaceFor xs k → k < length xs → ((d : X) → is_eq (order (get_or xs k d) r) ≡ true)
      → slice_set xs k new ≡ replaced order r new xs
  unfolding replaced
  replaced_at new [] k place within here = absurd (omega (arith, within))
  replaced_at new (x ∷ xs) zero place within here = rw (here x) refl
  replaced_at new (x ∷ xs) (suc k) place within here =
      rw (not_equal (order x r) (place.below 0 x (omega arith) (omega arith)))
      (ap (λ (rest : List X). x ∷ rest) (replaced_at new xs k (place_down place) (omega (arith, within)) here))

-- a record of a list that ascends stands at its place
module _ {X : Type 0} (order : X → X → Ordering) (total : IsTotalOrder order) (r : X) (xs : List X)
    (ascend : AllPairs (λ (x y : X). order x y ≡ Less) xs) (k : ℕ) (place : IsPlaceFor order r xs k) where
  pub stands_at : Contains xs r → (k < length xs) × ((d : X) → is_eq (order (get_or xs k d) r) ≡ true)
  stands_at (j, there, is) =
      let less : is_lt Less ≡ true = refl in
      let equal : is_lt Equal ≡ false = refl in
      let same : j ≡ k = grind (arith, there, is, less, equal, place.below j r, place.from k r, ascend k j r, tied_itself total r) in
      let within : k < length xs = omega (arith, there, same) in
      (within, λ d. ap (λ (x : X). is_eq (order x r)) (get_or_default xs k d r within ∙ ap (λ (i : ℕ). get_or xs i r) (sym same) ∙ is) ∙ ap is_eq (tied_itself total r))

-- a record that isn't the first of a list stands after it
later : {X : Type 0} (order : X → X → Ordering) (total : IsTotalOrder order) (r x : X) (xs : List X) → Contains (x ∷ xs) r → is_eq (order x r) ≡ false → Contains xs r
later order total r x xs (zero, within, is) other = let equal : is_eq Equal ≡ true = refl in grind (arith, is, other, equal, tied_itself total r)
later order total r x xs (suc k, within, is) other = (k, omega (arith, within), is)

-- what is chosen in front of some items
chosen_front : {X : Type 0} (test : Bool) (xs ys us vs zs : List X) → (test ≡ true → xs ≡ us ++ zs) → (test ≡ false → ys ≡ vs ++ zs)
    → (if test then xs else ys) ≡ (if test then us else vs) ++ zs
chosen_front test xs ys us vs zs one other = grind (arith, one, other)

-- only the part of a list of records changes in which a record belongs
module _ {X : Type 0} (order : X → X → Ordering) (total : IsTotalOrder order) (r : X) where
  -- an edit that passes what is below the record
  past_front : (edit : List X → List X) → ((x : X) (xs : List X) → order x r ≡ Less → edit (x ∷ xs) ≡ x ∷ edit xs) → (front xs : List X)
      → All (λ (y : X). order y r ≡ Less) front → edit (front ++ xs) ≡ front ++ edit xs
  past_front edit past [] xs below = refl
  past_front edit past (x ∷ front) xs below =
      past x (front ++ xs) (below 0 x (omega arith))
      ∙ ap (λ (rest : List X). x ∷ rest) (past_front edit past front xs (λ k d within. below (suc k) d (omega (arith, within))))

  -- and one of the record itself
  edited_front : (edit put : List X → List X) → ((x : X) (xs : List X) → edit (x ∷ xs) ≡ (if is_eq (order x r) then put xs else x ∷ edit xs))
      → ((xs zs : List X) → put (xs ++ zs) ≡ put xs ++ zs) → (xs zs : List X) → Contains xs r → edit (xs ++ zs) ≡ edit xs ++ zs
  edited_front edit put step puts [] zs found = absurd (omega (arith, found.1))
  edited_front edit put step puts (x ∷ xs) zs found =
      step x (xs ++ zs) ∙ chosen_front (is_eq (order x r)) (put (xs ++ zs)) (x ∷ edit (xs ++ zs)) (put xs) (x ∷ edit xs) zs (λ is. puts xs zs)
      (λ is. ap (λ (rest : List X). x ∷ rest) (edited_front edit put step puts xs zs (later order total r x xs found is))) ∙ ap (λ (ys : List X). ys ++ zs) (sym (step x xs))

  inserted_first : (zs : List X) → All (λ (y : X). order r y ≡ Less) zs → inserted order r zs ≡ r ∷ zs
  unfolding inserted
  inserted_first [] above = refl
  inserted_first (z ∷ zs) above = rw (total.antisymm z r ∙ ap ordering_reverse (above 0 z (omega arith))) refl

  inserted_front : (xs zs : List X) → All (λ (y : X). order r y ≡ Less) zs → inserted order r (xs ++ zs) ≡ inserted order r xs ++ zs
  unfolding inserted
  inserted_front [] zs above = inserted_first zs above
  inserted_front (x ∷ xs) zs above =
      chosen_front (is_lt (order x r)) (x ∷ inserted order r (xs ++ zs)) (r ∷ x ∷ (xs ++ zs)) (x ∷ inserted order r xs) (r ∷ x ∷ xs) zs
      (λ is. ap (λ (rest : List X). x ∷ rest) (inserted_front xs zs above)) (λ is. refl)

  pub inserted_between : (front xs after : List X) → All (λ (y : X). order y r ≡ Less) front → All (λ (y : X). order r y ≡ Less) after
      → inserted order r (front ++ (xs ++ after)) ≡ front ++ (inserted order r xs ++ after)
  unfolding inserted
  inserted_between front xs after below above =
      past_front (inserted order r) (λ x ys less. rw less refl) front (xs ++ after) below ∙ ap (λ (rest : List X). front ++ rest) (inserted_front xs after above)

  pub removed_between : (front xs after : List X) → All (λ (y : X). order y r ≡ Less) front → Contains xs r
      → removed order r (front ++ (xs ++ after)) ≡ front ++ (removed order r xs ++ after)
  unfolding removed
  removed_between front xs after below found =
      past_front (removed order r) (λ x ys less. rw less refl) front (xs ++ after) below
      ∙ ap (λ (rest : List X). front ++ rest) (edited_front (removed order r) (λ ys. ys) (λ x ys. refl) (λ ys zs. refl) xs after found)

  pub replaced_between : (new : X) (front xs after : List X) → All (λ (y : X). order y r ≡ Less) front → Contains xs r
      → replaced order r new (front ++ (xs ++ after)) ≡ front ++ (replaced order r new xs ++ after)
  unfolding replaced
  replaced_between new front xs after below found =
      past_front (replaced order r new) (λ x ys less. rw less refl) front (xs ++ after) below
      ∙ ap (λ (rest : List X). front ++ rest) (edited_front (replaced order r new) (λ ys. new ∷ ys) (λ x ys. refl) (λ ys zs. refl) xs after found)

-- what stands in front of a record of a list that ascends is below it
pub front_below : {X : Type 0} (order : X → X → Ordering) (front ys : List X) (r : X) → AllPairs (λ (x y : X). order x y ≡ Less) (front ++ ys) → Contains ys r
    → All (λ (x : X). order x r ≡ Less) front
front_below order front ys r pairs (j, within, is) k d inside =
    let both = pairs k (length front + j) d (omega (arith, inside)) (omega (arith, within, length-append front ys)) in
    cc (both, is, get_or-append-add front ys j d, get_or_default ys j d r within, get_or_append_left front ys d k inside)

-- a record that stands in the list afterwards is valid by the rules
pub inserted_valid : {X : Type 0} (form : Form X) (r : X) (xs : List X) → AreRecords form (inserted form.order r xs) → form.is_valid r ≡ true
inserted_valid {X} form r xs rules =
    All-contains (λ (x : X). form.is_valid x ≡ true) (inserted form.order r xs) r rules.valid (inserted_has form.order r xs)

pub replaced_valid : {X : Type 0} (form : Form X) → IsForm form → (old new : X) (xs : List X) → Contains xs old → AreRecords form (replaced form.order old new xs)
    → form.is_valid new ≡ true
replaced_valid form laws old new xs found rules =
    All-contains (λ x. form.is_valid x ≡ true) (replaced form.order old new xs) new rules.valid (replaced_has form.order laws.total old new xs found)
