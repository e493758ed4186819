-- In ascending records the last that is wanted is the greatest, and the first is the least.
use Rattle.std.proofs.Common.{◌≡◌, Bool, true, false, cond, Option, Some, None, List, [], ◌∷◌, reverse, refl, sym, ap, ◌∙◌, subst, arith}
use Rattle.std.proofs.lemmas.Cmp.{tied_itself}
use Rattle.std.proofs.lemmas.List.Elements.{All-contains, All-cons, Contains-append_right}
use Rattle.std.specs.List.{All, AllPairs, find}
use Rattle.std.specs.Option.{option_or}
use Rattle.std.specs.Ordering.{is_gt, is_lt, ordering_reverse}
use Rattle.std.specs.declared.cmp.Ordering.TheVariants.{Less}
use Rattle.xr_block.specs.declared.bound.Bound.{Bound}
use Rattle.xr_kinds.specs.Form.{Form, IsForm}
use Rattle.xr_lookup.specs.Lookup.{FindsGreatest, FindsLeast, bound_after, is_wanted, overlaps}
use Rattle.xr_block.specs.PartLaws.{last_append, pairs_first, pairs_right}

-- none is below the first
pub first_least : {X : Type 0} (form : Form X) (laws : IsForm form) (x : X) (xs : List X) → AllPairs (λ (a b : X). form.order a b ≡ Less) (x ∷ xs)
    → All (λ (y : X). is_lt (form.order y x) ≡ false) (x ∷ xs)
first_least {X = X} form laws x xs pairs =
    All-cons (λ (y : X). is_lt (form.order y x) ≡ false) x xs (ap is_lt (tied_itself laws.total x))
    (λ k d within. ap is_lt (laws.total.antisymm _ x ∙ ap ordering_reverse (pairs_first (λ (a b : X). form.order a b ≡ Less) x xs pairs k d within)))

module _ {X : Type 0} (form : Form X) (laws : IsForm form) (wanted : X → Bool) where
  one_more_last : (x : X) (xs : List X) (o : Option X) (passes : Bool) → wanted x ≡ passes → AllPairs (λ (a b : X). form.order a b ≡ Less) (x ∷ xs)
      → FindsGreatest form xs wanted o → FindsGreatest form (x ∷ xs) wanted (option_or o (cond passes (Some x) None))
  one_more_last x xs (Some z) passes is pairs greatest = record {
    held = Contains-append_right (x ∷ []) xs z greatest.held;
    fits = greatest.fits;
    greatest = All-cons (λ (y : X). wanted y ≡ true → is_gt (form.order y z) ≡ false) x xs
        (λ fits. ap is_gt (All-contains (λ (y : X). form.order x y ≡ Less) xs z (pairs_first (λ (a b : X). form.order a b ≡ Less) x xs pairs) greatest.held))
        greatest.greatest;
  }
  one_more_last x xs None true is pairs none = record {
    held = (0, omega arith, refl);
    fits = is;
    greatest = All-cons (λ (y : X). wanted y ≡ true → is_gt (form.order y x) ≡ false) x xs (λ fits. ap is_gt (tied_itself laws.total x))
        (λ k d within fits. cc (none k d within, fits));
  }
  one_more_last x xs None false is pairs none = All-cons (λ (y : X). wanted y ≡ false) x xs is none

  pub greatest_found : (xs : List X) → AllPairs (λ (a b : X). form.order a b ≡ Less) xs → FindsGreatest form xs wanted (find wanted (reverse xs))
  greatest_found [] pairs = λ k d within. absurd (omega arith)
  greatest_found (x ∷ xs) pairs =
      subst (FindsGreatest form (x ∷ xs) wanted) (sym (last_append wanted (x ∷ []) xs))
      (one_more_last x xs (find wanted (reverse xs)) (wanted x) refl pairs
      (greatest_found xs (pairs_right (λ (a b : X). form.order a b ≡ Less) (x ∷ []) xs pairs)))

  one_more_first : (x : X) (xs : List X) (o : Option X) (passes : Bool) → wanted x ≡ passes → AllPairs (λ (a b : X). form.order a b ≡ Less) (x ∷ xs)
      → FindsLeast form xs wanted o → FindsLeast form (x ∷ xs) wanted (cond passes (Some x) o)
  one_more_first x xs o true is pairs found = record {
    held = (0, omega arith, refl);
    fits = is;
    least = λ k d within fits. first_least form laws x xs pairs k d within;
  }
  one_more_first x xs (Some z) false is pairs least = record {
    held = Contains-append_right (x ∷ []) xs z least.held;
    fits = least.fits;
    least = All-cons (λ (y : X). wanted y ≡ true → is_lt (form.order y z) ≡ false) x xs (λ fits. cc (is, fits)) least.least;
  }
  one_more_first x xs None false is pairs none = All-cons (λ (y : X). wanted y ≡ false) x xs is none

  pub least_found : (xs : List X) → AllPairs (λ (a b : X). form.order a b ≡ Less) xs → FindsLeast form xs wanted (find wanted xs)
  least_found [] pairs = λ k d within. absurd (omega arith)
  least_found (x ∷ xs) pairs =
      one_more_first x xs (find wanted xs) (wanted x) refl pairs (least_found xs (pairs_right (λ (a b : X). form.order a b ≡ Less) (x ∷ []) xs pairs))

-- a search after a record takes what overlaps
pub overlaps_is : {X : Type 0} (form : Form X) (r : X) (after : Option X) (bound : Bound X) → bound ≡ bound_after after
    → ◌≡◌ {A = X → Bool} (is_wanted form (record { from = bound; meeting = Some r })) (overlaps form r after)
overlaps_is form r None bound is = ap (λ c. is_wanted form (record { from = c; meeting = Some r })) is
overlaps_is form r (Some a) bound is = ap (λ c. is_wanted form (record { from = c; meeting = Some r })) is
