-- Extents that are joined to others or cut: they are as good, and agree with what the others agree with.
use Rattle.std.proofs.Common.{◌≡◌, ◌≢◌, ℕ, ◌+◌, ◌-◌, ◌<◌, ◌≤◌, true, List, ⊎_elim, arith}
use Rattle.std.proofs.lemmas.Bool.Decides.{nat_tests}
use Rattle.std.specs.List.{Contains}
use Rattle.xr_block.specs.Tree.{AreRecords}
use Rattle.xr_bmap.specs.SlotLaws.{agrees, valid_in}
use Rattle.xr_bmap.specs.Joins.{IsPartOfExtent, ShortensExtent, front_of_extent, joined_extents, rest_of_extent}
use Rattle.xr_kinds.specs.Mapping.{is_mapping, mapping_form, runs_on}
use Rattle.xr_kinds.specs.declared.mapping.Mapping.{Mapping}

module _ (x r : Mapping) (one : is_mapping x ≡ true) (other : is_mapping r ≡ true) (on : runs_on x r ≡ true) where
  pub joined_good : is_mapping (joined_extents x r) ≡ true
  joined_good = grind (arith, nat_tests)

  pub joined_fits : (y : Mapping) → mapping_form.agree y x ≡ true → mapping_form.agree y r ≡ true → mapping_form.agree y (joined_extents x r) ≡ true
  joined_fits y agree agrees = grind (arith, nat_tests)

-- a part of an extent, at its front or behind one
pub front_good : (r : Mapping) (len : ℕ) → is_mapping r ≡ true → 0 < len → len ≤ r.len → is_mapping (front_of_extent r len) ≡ true
front_good r len good some fits = grind (arith, nat_tests)

pub front_fits : (r : Mapping) (len : ℕ) → 0 < len → len ≤ r.len → (x : Mapping) → mapping_form.agree x r ≡ true → is_mapping x ≡ true
    → mapping_form.agree x (front_of_extent r len) ≡ true
front_fits r len some fits x agree good = grind (arith, nat_tests)

module _ (whole : Mapping) (off len : ℕ) (part : IsPartOfExtent off len whole) (good : is_mapping whole ≡ true) where
  abbrev rest : Mapping
  rest = rest_of_extent whole (off + len)

  pub rest_good : 0 < rest.len → is_mapping rest ≡ true
  rest_good some = grind (arith, nat_tests, part.some, part.from, part.up_to)

  pub rest_fits : (x : Mapping) → 0 < rest.len → mapping_form.agree x whole ≡ true → is_mapping x ≡ true → mapping_form.agree x rest ≡ true
  rest_fits x some agree valid = grind (arith, nat_tests, part.some, part.from, part.up_to)

  pub front_fits_rest : mapping_form.agree (front_of_extent whole (off - whole.off)) rest ≡ true
  front_fits_rest = grind (arith, nat_tests, part.some, part.from, part.up_to)

-- what is left of the tree agrees with the rest of an extent that was shortened
pub shortened_fits : (xs : List Mapping) → AreRecords mapping_form xs → (whole : Mapping) (off len : ℕ) → Contains xs whole → (part : IsPartOfExtent off len whole)
    → (Q : Mapping → Type 0) → ShortensExtent (Contains xs) whole (off - whole.off) Q → (let rest = rest_of_extent whole (off + len) in 0 < rest.len
    → (x : Mapping) → Q x → mapping_form.agree x rest ≡ true)
shortened_fits xs rules whole off len held part Q front some x within =
    let good = valid_in xs rules whole held in
    ⊎_elim
    (λ (first : (0 < off - whole.off) × (x ≡ front_of_extent whole (off - whole.off))). rw first.1 (front_fits_rest whole off len part good))
    (λ (kept : (x ≢ whole) × Contains xs x).
    rest_fits whole off len part good x some (agrees xs rules x whole kept.1 held kept.0) (valid_in xs rules x kept.1))
    ((front x).0 within)
