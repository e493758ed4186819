-- What a set of extents maps at an offset, and what it maps there after one comes, goes or takes the place of another.
use Rattle.std.proofs.Common.{◌≡◌, ◌≢◌, ◌⊎◌, ℕ, zero, suc, ◌+◌, ◌-◌, ◌<◌, ◌≤◌, true, false, List, [], ◌∷◌, Option, Some, None, refl, ap, sym, ◌∙◌, inl, inr, ⊎_elim, arith}
use Rattle.std.proofs.lemmas.Bool.{cases_Bool}
use Rattle.std.proofs.lemmas.Bool.Decides.{nat_tests}
use Rattle.std.proofs.lemmas.List.Elements.{All-contains, Contains-append_right}
use Rattle.std.specs.List.{Contains}
use Rattle.xr_base.specs.Address.{address_after, address_of}
use Rattle.xr_base.specs.declared.address.Addr.{Addr}
use Rattle.xr_block.specs.Tree.{AreRecords}
use Rattle.xr_bmap.specs.Slots.{HasOffset, mapped_in}
use Rattle.xr_change.specs.SetLaws.{agree_in}
use Rattle.xr_change.specs.Sets.{Gains, Loses, Swaps}
use Rattle.xr_kinds.specs.Mapping.{is_mapping, mapping_form}
use Rattle.xr_kinds.specs.MappingLaws.{is_mapping_form}
use Rattle.xr_kinds.specs.declared.mapping.Mapping.{Mapping}
use Rattle.xr_maps.specs.Steps.{is_within, punched_slot, remapped_slot}

pub bounds : (off len o : ℕ) → is_within off len o ≡ true → (off ≤ o) × (o < off + len)
bounds off len o within = (grind (arith, nat_tests), grind (arith, nat_tests))

-- the block that an extent maps at one of its offsets
abbrev pub block_at_offset : Mapping → ℕ → Addr
block_at_offset x o = address_after (address_of x.at) (o - x.off)

-- a set of extents maps an offset so
abbrev pub IsSlot : (Mapping → Type 0) → ℕ → Option Addr → Type 0
IsSlot extents o slot =
    ((slot ≡ None) × ((x : Mapping) → extents x → ¬ (HasOffset x o)))
    ⊎ ((x : Mapping) × extents x × HasOffset x o × (slot ≡ Some (block_at_offset x o)))

in_cases : (x : Mapping) (xs : List Mapping) (y : Mapping) → Contains (x ∷ xs) y → (x ≡ y) ⊎ Contains xs y
in_cases x xs y (zero, within, is) = inl is
in_cases x xs y (suc k, within, is) = inr (k, omega (arith, within), is)

pub list_slot : (xs : List Mapping) (o : ℕ) → IsSlot (Contains xs) o (mapped_in xs o)
unfolding mapped_in
list_slot [] o = inl (refl, λ x held. absurd (omega (arith, held.1)))
list_slot (x ∷ xs) o = ⊎_elim
    (λ (yes : is_within x.off x.len o ≡ true). inr (x, (0, omega arith, refl), yes, rw yes refl))
    (λ (no : is_within x.off x.len o ≡ false).
    let same : mapped_in (x ∷ xs) o ≡ mapped_in xs o = rw no refl in
    ⊎_elim
    (λ (none : (mapped_in xs o ≡ None) × ((y : Mapping) → Contains xs y → ¬ (HasOffset y o))).
    inl (
      same ∙ none.0,
      λ y held has. ⊎_elim
          (λ (is : x ≡ y). let lie = rw (← is) at has in absurd cc)
          (λ (rest : Contains xs y). none.1 y rest has)
          (in_cases x xs y held),
    ))
    (λ (some : (y : Mapping) × Contains xs y × HasOffset y o × (mapped_in xs o ≡ Some (block_at_offset y o))).
    inr (some.0, Contains-append_right (x ∷ []) xs some.0 some.1, some.2, same ∙ some.3))
    (list_slot xs o))
    (cases_Bool (is_within x.off x.len o))

module _ (xs : List Mapping) (rules : AreRecords mapping_form xs) where
  pub valid_in : (x : Mapping) → Contains xs x → is_mapping x ≡ true
  valid_in x held = All-contains (λ (y : Mapping). mapping_form.is_valid y ≡ true) xs x rules.valid held

  pub agreeing : (x y : Mapping) → Contains xs x → mapping_form.agree x y ≡ true → x ≢ y
  agreeing x y held agree same = let good = valid_in x held in let itself = rw (← same) at agree in absurd (grind (arith, nat_tests, good, itself))

  pub same_or_other : (x y : Mapping) → Contains xs x → Contains xs y → (x ≡ y) ⊎ (x ≢ y)
  same_or_other x y here there =
      ⊎_elim inl (λ (agree : mapping_form.agree x y ≡ true). inr (agreeing x y here agree)) (agree_in mapping_form is_mapping_form xs rules x y here there)

  pub agrees : (x y : Mapping) → Contains xs x → Contains xs y → x ≢ y → mapping_form.agree x y ≡ true
  agrees x y here there differ =
      ⊎_elim (λ (same : x ≡ y). absurd (differ same)) (λ (agree : mapping_form.agree x y ≡ true). agree) (agree_in mapping_form is_mapping_form xs rules x y here there)

  pub one_extent : (x y : Mapping) (o : ℕ) → Contains xs x → Contains xs y → HasOffset x o → HasOffset y o → x ≡ y
  one_extent x y o here there has also = ⊎_elim
      (λ (same : x ≡ y). same)
      (λ (agree : mapping_form.agree x y ≡ true). absurd (grind (arith, nat_tests, has, also, agree)))
      (agree_in mapping_form is_mapping_form xs rules x y here there)

  pub one_slot : (o : ℕ) (s t : Option Addr) → IsSlot (Contains xs) o s → IsSlot (Contains xs) o t → s ≡ t
  one_slot o s t one other = ⊎_elim
      (λ (none : (s ≡ None) × ((x : Mapping) → Contains xs x → ¬ (HasOffset x o))). ⊎_elim
      (λ (too : (t ≡ None) × ((x : Mapping) → Contains xs x → ¬ (HasOffset x o))). none.0 ∙ sym too.0)
      (λ (some : (y : Mapping) × Contains xs y × HasOffset y o × (t ≡ Some (block_at_offset y o))). absurd (none.1 some.0 some.1 some.2))
      other)
      (λ (first : (x : Mapping) × Contains xs x × HasOffset x o × (s ≡ Some (block_at_offset x o))). ⊎_elim
      (λ (none : (t ≡ None) × ((x : Mapping) → Contains xs x → ¬ (HasOffset x o))). absurd (none.1 first.0 first.1 first.2))
      (λ (second : (y : Mapping) × Contains xs y × HasOffset y o × (t ≡ Some (block_at_offset y o))).
      let same = one_extent first.0 second.0 o first.1 second.1 first.2 second.2 in
      first.3 ∙ rw same refl ∙ sym second.3)
      other)
      one

  -- what is mapped is what the extents map, and an extent's offsets map its blocks
  pub slot_is : (o : ℕ) (s : Option Addr) → IsSlot (Contains xs) o s → mapped_in xs o ≡ s
  slot_is o s known = one_slot o (mapped_in xs o) s (list_slot xs o) known

  pub known_slot : (x : Mapping) → Contains xs x → (o : ℕ) → HasOffset x o → mapped_in xs o ≡ Some (block_at_offset x o)
  known_slot x held o has = slot_is o (Some (block_at_offset x o)) (inr (x, held, has, refl))

number_of : Option Addr → ℕ
number_of None = 0
number_of (Some a) = a.0

pub same_number : (a b : Addr) → Some a ≡ Some b → a.0 ≡ b.0
unfolding number_of
same_number a b same = ap number_of same

-- an extent isn't gone on
goes_on : (x y : Mapping) → is_mapping x ≡ true → HasOffset y (x.off + x.len) → x.at + x.len ≡ y.at + (x.off + x.len - y.off) → mapping_form.agree x y ≡ true → ⊥
goes_on x y good has on agree = grind (arith, nat_tests)

not_own : (x : Mapping) → HasOffset x (x.off + x.len) → ⊥
not_own x has = grind (arith, nat_tests)

module _ (xs : List Mapping) (rules : AreRecords mapping_form xs) (x : Mapping) (held : Contains xs x) where
  pub ends : mapped_in xs (x.off + x.len) ≢ Some (address_after (address_of x.at) x.len)
  ends is = ⊎_elim
      (λ (none : (mapped_in xs (x.off + x.len) ≡ None) × ((y : Mapping) → Contains xs y → ¬ (HasOffset y (x.off + x.len)))). let no = none.0 in absurd cc)
      (λ (some : (y : Mapping) × Contains xs y × HasOffset y (x.off + x.len) × (mapped_in xs (x.off + x.len) ≡ Some (block_at_offset y (x.off + x.len)))).
      let on : x.at + x.len ≡ some.0.at + (x.off + x.len - some.0.off) =
      same_number (address_after (address_of x.at) x.len) (block_at_offset some.0 (x.off + x.len)) (sym is ∙ some.3) in
      ⊎_elim
      (λ (same : x ≡ some.0). not_own x (rw (← same) at some.2))
      (λ (agree : mapping_form.agree x some.0 ≡ true). goes_on x some.0 (valid_in xs rules x held) some.2 on agree)
      (agree_in mapping_form is_mapping_form xs rules x some.0 held some.1))
      (list_slot xs (x.off + x.len))

module _ (P Q : Mapping → Type 0) (r : Mapping) (o : ℕ) (s : Option Addr) (known : IsSlot P o s) where
  pub slot_gained : Gains P r Q → IsSlot Q o (remapped_slot r.off r.len (address_of r.at) o s)
  slot_gained more = ⊎_elim
      (λ (yes : is_within r.off r.len o ≡ true). inr (r, (more r).1 (inl refl), yes, rw yes refl))
      (λ (no : is_within r.off r.len o ≡ false).
      let same : remapped_slot r.off r.len (address_of r.at) o s ≡ s = rw no refl in
      ⊎_elim
      (λ (none : (s ≡ None) × ((x : Mapping) → P x → ¬ (HasOffset x o))).
      inl (
        same ∙ none.0,
        λ x held has. ⊎_elim
            (λ (is : x ≡ r). let lie = rw is at has in absurd cc)
            (λ (old : P x). none.1 x old has)
            ((more x).0 held),
      ))
      (λ (some : (x : Mapping) × P x × HasOffset x o × (s ≡ Some (block_at_offset x o))).
      inr (some.0, (more some.0).1 (inr some.1), some.2, same ∙ some.3))
      known)
      (cases_Bool (is_within r.off r.len o))

  pub slot_lost : ((x : Mapping) → P x → HasOffset x o → HasOffset r o → x ≡ r) → Loses P r Q → IsSlot Q o (punched_slot r.off r.len o s)
  slot_lost one less = ⊎_elim
      (λ (yes : is_within r.off r.len o ≡ true).
      inl (rw yes refl, λ x held has. let kept = (less x).0 held in kept.0 (one x kept.1 has yes)))
      (λ (no : is_within r.off r.len o ≡ false).
      let same : punched_slot r.off r.len o s ≡ s = rw no refl in
      ⊎_elim
      (λ (none : (s ≡ None) × ((x : Mapping) → P x → ¬ (HasOffset x o))).
      inl (same ∙ none.0, λ x held has. let kept = (less x).0 held in none.1 x kept.1 has))
      (λ (some : (x : Mapping) × P x × HasOffset x o × (s ≡ Some (block_at_offset x o))).
      inr (some.0, (less some.0).1 (λ (is : some.0 ≡ r). let lie = rw is at some.2 in absurd cc, some.1), some.2, same ∙ some.3))
      known)
      (cases_Bool (is_within r.off r.len o))

-- the records of two trees, and what they map
module _ (xs ys : List Mapping) (rules : AreRecords mapping_form xs) (after : AreRecords mapping_form ys) (o : ℕ) where
  pub mapped_gained : (r : Mapping) → Gains (Contains xs) r (Contains ys) → mapped_in ys o ≡ remapped_slot r.off r.len (address_of r.at) o (mapped_in xs o)
  mapped_gained r more = slot_is ys after o _ (slot_gained (Contains xs) (Contains ys) r o (mapped_in xs o) (list_slot xs o) more)

  pub mapped_lost : (r : Mapping) → Contains xs r → Loses (Contains xs) r (Contains ys) → mapped_in ys o ≡ punched_slot r.off r.len o (mapped_in xs o)
  mapped_lost r held less = slot_is ys after o _
      (slot_lost (Contains xs) (Contains ys) r o (mapped_in xs o) (list_slot xs o) (λ x here has also. one_extent xs rules x r o here held has also) less)

  pub mapped_swapped : (old new : Mapping) → Contains xs old → Swaps (Contains xs) old new (Contains ys)
      → mapped_in ys o ≡ remapped_slot new.off new.len (address_of new.at) o (punched_slot old.off old.len o (mapped_in xs o))
  mapped_swapped old new held swap =
      let rest : Mapping → Type 0 = λ x. (x ≢ old) × Contains xs x in
      slot_is ys after o _
      (slot_gained rest (Contains ys) new o (punched_slot old.off old.len o (mapped_in xs o))
      (slot_lost (Contains xs) rest old o (mapped_in xs o) (list_slot xs o) (λ x here has also. one_extent xs rules x old o here held has also) (λ x. (λ kept. kept, λ kept. kept))) swap)
