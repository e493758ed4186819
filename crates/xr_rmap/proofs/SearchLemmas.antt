-- A search for the record that says a pair, over those that hold its block, and one for the record that another leads to.
use Rattle.std.proofs.Common.{◌≡◌, ◌≢◌, ℕ, ◌+◌, ◌-◌, ◌^◌, ◌<◌, true, false, not, List, Option, Some, None, IfSome, refl, ap, ⊎_elim, arith}
use Rattle.std.proofs.lemmas.Bool.{and_parts}
use Rattle.std.proofs.lemmas.Bool.Decides.{nat_tests}
use Rattle.std.proofs.lemmas.List.Elements.{All-contains}
use Rattle.std.specs.List.{Contains}
use Rattle.std.specs.Ordering.{is_le, is_lt}
use Rattle.std.specs.declared.cmp.Ordering.TheVariants.{Greater, Less}
use Rattle.xr_base.specs.declared.geometry.TheConstants.{OWN_COW}
use Rattle.xr_block.specs.Tree.{AreRecords}
use Rattle.xr_change.specs.SetLaws.{pair_in}
use Rattle.xr_kinds.specs.Reverse.{reverse_form}
use Rattle.xr_kinds.specs.ReverseLaws.{is_reverse_form}
use Rattle.xr_kinds.specs.declared.reverse.Reverse.{Reverse}
use Rattle.xr_lookup.specs.Lookup.{AreUnwanted, IsLeast, is_after, overlaps}
use Rattle.xr_rmap.specs.PairLaws.{bounded, number_of, rises, valid_in}
use Rattle.xr_rmap.specs.Pairs.{HasPairIn, IsPair}

-- a number that falls while the search goes on
abbrev pub rank : Option Reverse → ℕ
rank None = 2 ^ 90 + 1
rank (Some r) = 2 ^ 90 - number_of r

after_less : (r x : Reverse) → is_after reverse_form (Some r) x ≡ true → reverse_form.order r x ≡ Less
after_less r x behind = grind (arith, nat_tests)

abbrev pub probe_at : ℕ → Reverse
probe_at n = record { start = n; len = 1; owner = OWN_COW; off = 0 }

meets_probe : (x : Reverse) (w o n : ℕ) → IsPair x w o n → reverse_form.meet x (probe_at n) ≡ true
meets_probe x w o n says = grind (arith, nat_tests, says.from, says.below)

-- what stands behind a record of the list
behind_found : (xs : List Reverse) → AreRecords reverse_form xs → (x found : Reverse) → Contains xs x → Contains xs found → x ≢ found
    → is_lt (reverse_form.order x found) ≡ false → is_after reverse_form (Some found) x ≡ true
behind_found xs rules x found here there differ least = ⊎_elim
    (λ (same : x ≡ found). absurd (differ same))
    (⊎_elim
    (λ (less : reverse_form.order x found ≡ Less). let low = ap is_lt less in absurd cc)
    (λ (more : reverse_form.order found x ≡ Less).
    let back = is_reverse_form.total.antisymm x found in
    let greater : reverse_form.order x found ≡ Greater = cc in ap (λ o. not (is_le o)) greater))
    (pair_in (λ (a b : Reverse). reverse_form.order a b ≡ Less) xs x found rules.ascend here there)

-- what says the pair is behind the last record that was passed
pub record IsPassed (xs : List Reverse) (w o n : ℕ) (after : Option Reverse) : Type 0 where
  pub above : (x : Reverse) → Contains xs x → IsPair x w o n → is_after reverse_form after x ≡ true
  pub held : IfSome after (Contains xs)

module _ (xs : List Reverse) (rules : AreRecords reverse_form xs) (w o n : ℕ) (after : Option Reverse) (passed : IsPassed xs w o n after) where
  pub none_left : AreUnwanted (overlaps reverse_form (probe_at n) after) xs → ¬ (HasPairIn (Contains xs) w o n)
  none_left none (x, held, says) =
      let unwanted = All-contains (λ (y : Reverse). overlaps reverse_form (probe_at n) after y ≡ false) xs x none held in
      let meets = meets_probe x w o n says in
      let behind = passed.above x held says in
      let wanted : overlaps reverse_form (probe_at n) after x ≡ true = rw (meets, behind) refl in
      absurd cc

  module _ (found : Reverse) (least : IsLeast reverse_form xs (overlaps reverse_form (probe_at n) after) found) where
    pub still_passed : ¬ (IsPair found w o n) → IsPassed xs w o n (Some found)
    still_passed other = record {
      above = λ x held says.
          let meets = meets_probe x w o n says in
          let behind = passed.above x held says in
          behind_found xs rules x found held least.held (λ same. other (rw same at says))
          (All-contains (λ (y : Reverse). overlaps reverse_form (probe_at n) after y ≡ true → is_lt (reverse_form.order y found) ≡ false) xs x
          least.least held (rw (meets, behind) refl));
      held = least.held;
    }

    falls : (before : Option Reverse) → before ≡ after → IfSome before (Contains xs) → is_after reverse_form before found ≡ true → rank (Some found) < rank before
    falls None is held behind = omega arith
    falls (Some r) is held behind =
        let good = valid_in xs rules found least.held in
        omega (arith, rises r found (valid_in xs rules r held) good (after_less r found behind), bounded found good)

    pub rank_falls : rank (Some found) < rank after
    rank_falls = let parts = and_parts _ _ least.fits in falls after refl passed.held parts.1
