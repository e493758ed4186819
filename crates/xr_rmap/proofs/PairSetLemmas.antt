-- Which pairs some records say after one comes, goes or takes the place of another.
use Rattle.std.proofs.Common.{◌≡◌, ◌≢◌, ◌⊎◌, ◌↔◌, ℕ, ◌+◌, ◌-◌, ◌<◌, ◌≤◌, true, List, refl, inl, inr, ⊎_elim, arith}
use Rattle.std.proofs.lemmas.Bool.{cases_lt}
use Rattle.std.specs.List.{Contains}
use Rattle.xr_block.specs.Tree.{AreRecords}
use Rattle.xr_change.specs.SetLaws.{agree_in}
use Rattle.xr_change.specs.Sets.{Gains, Swaps}
use Rattle.xr_kinds.specs.Reverse.{is_reverse, reverse_form}
use Rattle.xr_kinds.specs.ReverseLaws.{is_reverse_form}
use Rattle.xr_kinds.specs.declared.reverse.Reverse.{Reverse}
use Rattle.xr_rmap.proofs.PartLemmas.{front_fits, front_part, part_fits, part_says, rest_part, says_part}
use Rattle.xr_rmap.specs.Joins.{IsPartOf, Shortens, record_front, rest_after}
use Rattle.xr_rmap.specs.PairLaws.{first_pair, one_record, same_clash, valid_in}
use Rattle.xr_rmap.specs.Pairs.{HasPairIn, IsPair}

pub gained : (P Q : Reverse → Type 0) (r : Reverse) → Gains P r Q → (w o n : ℕ) → HasPairIn Q w o n ↔ (HasPairIn P w o n ⊎ IsPair r w o n)
gained P Q r more w o n = (
  λ found. ⊎_elim
      (λ (is : found.0 ≡ r). inr (rw is at found.2))
      (λ (old : P found.0). inl (found.0, old, found.2))
      ((more found.0).0 found.1),
  ⊎_elim
      (λ (old : HasPairIn P w o n). (old.0, (more old.0).1 (inr old.1), old.2))
      (λ (new : IsPair r w o n). (r, (more r).1 (inl refl), new)),
)

module _ (xs : List Reverse) (rules : AreRecords reverse_form xs) where
  -- two records that agree are two, so of two in the list it is known whether they are one
  pub agreeing : (x y : Reverse) → Contains xs y → reverse_form.agree x y ≡ true → x ≢ y
  agreeing x y held agree same =
      let first = first_pair y (valid_in xs rules y held) in
      let clash = same_clash y y y.owner y.off y.start first first in
      let itself = rw same at agree in
      absurd cc

  pub same_or_other : (x y : Reverse) → Contains xs x → Contains xs y → (x ≡ y) ⊎ (x ≢ y)
  same_or_other x y here there =
      ⊎_elim inl (λ (agree : reverse_form.agree x y ≡ true). inr (agreeing x y there agree)) (agree_in reverse_form is_reverse_form xs rules x y here there)

  pub agrees : (x y : Reverse) → Contains xs x → Contains xs y → x ≢ y → reverse_form.agree x y ≡ true
  agrees x y here there differ =
      ⊎_elim (λ (same : x ≡ y). absurd (differ same)) (λ (agree : reverse_form.agree x y ≡ true). agree) (agree_in reverse_form is_reverse_form xs rules x y here there)

  -- another in the place of one, which says its pairs and those of a third
  pub swapped : (Q : Reverse → Type 0) (old new r : Reverse) → Contains xs old → Swaps (Contains xs) old new Q
      → ((w o n : ℕ) → IsPair new w o n ↔ (IsPair old w o n ⊎ IsPair r w o n))
      → (w o n : ℕ) → HasPairIn Q w o n ↔ (HasPairIn (Contains xs) w o n ⊎ IsPair r w o n)
  swapped Q old new r held swap each w o n = (
    λ found. ⊎_elim
        (λ (is : found.0 ≡ new).
        ⊎_elim (λ (one : IsPair old w o n). inl (old, held, one)) (λ (more : IsPair r w o n). inr more) ((each w o n).0 (rw is at found.2)))
        (λ (kept : (found.0 ≢ old) × Contains xs found.0). inl (found.0, kept.1, found.2))
        ((swap found.0).0 found.1),
    ⊎_elim
        (λ (one : HasPairIn (Contains xs) w o n). ⊎_elim
        (λ (is : one.0 ≡ old). (new, (swap new).1 (inl refl), (each w o n).1 (inl (rw is at one.2))))
        (λ (other : one.0 ≢ old). (one.0, (swap one.0).1 (inr (other, one.1)), one.2))
        (same_or_other one.0 old one.1 held))
        (λ (more : IsPair r w o n). (new, (swap new).1 (inl refl), (each w o n).1 (inr more))),
  )

-- a part is taken out of one: what is left in front of it and behind it
module _ (xs : List Reverse) (rules : AreRecords reverse_form xs) (whole part : Reverse) (held : Contains xs whole) (is : IsPartOf part whole)
    (Q : Reverse → Type 0) (front : Shortens (Contains xs) whole (part.start - whole.start) Q) where
  abbrev len : ℕ
  len = part.start - whole.start

  abbrev rest : Reverse
  rest = rest_after whole part

  good : is_reverse whole ≡ true
  good = valid_in xs rules whole held

  in_front : 0 < len → IsPartOf (record_front whole len) whole
  in_front some = front_part whole good len some (omega (arith, is.up_to))

  pub rest_fits : 0 < rest.len → (x : Reverse) → Q x → reverse_form.agree x rest ≡ true
  rest_fits some x within = ⊎_elim
      (λ (first : (0 < len) × (x ≡ record_front whole len)). rw first.1 (front_fits whole part is))
      (λ (kept : (x ≢ whole) × Contains xs x). part_fits rest whole (rest_part part whole is some) x (agrees xs rules x whole kept.1 held kept.0))
      ((front x).0 within)

  module _ (R : Reverse → Type 0) (each : (x : Reverse) → R x ↔ (((0 < rest.len) × (x ≡ rest)) ⊎ Q x)) (w o n : ℕ) where
    abbrev Left : Type 0
    Left = HasPairIn (Contains xs) w o n × ¬ (IsPair part w o n)

    left_of_rest : 0 < rest.len → IsPair rest w o n → Left
    left_of_rest some says =
        ((whole, held, part_says rest whole (rest_part part whole is some) w o n says), λ gone. absurd (omega (arith, says.from, gone.below)))

    left_of_front : 0 < len → IsPair (record_front whole len) w o n → Left
    left_of_front some says =
        ((whole, held, part_says (record_front whole len) whole (in_front some) w o n says), λ gone. absurd (omega (arith, says.below, gone.from)))

    left_of_other : (x : Reverse) → x ≢ whole → Contains xs x → IsPair x w o n → Left
    left_of_other x other within says =
        ((x, within, says), λ gone. other (one_record xs rules x whole within held w o n says (part_says part whole is w o n gone)))

    stays_of_whole : IsPair whole w o n → ¬ (IsPair part w o n) → HasPairIn R w o n
    stays_of_whole says not = ⊎_elim
        (λ (before : n < part.start).
        let some : 0 < len = omega (arith, says.from, before) in
        let first : Reverse = record_front whole len in
        (first, (each first).1 (inr ((front first).1 (inl (some, refl)))), says_part first whole (in_front some) w o n says says.from (omega (arith, before))))
        (λ (from : part.start ≤ n). ⊎_elim
        (λ (inside : n < part.start + part.len). absurd (not (says_part part whole is w o n says from inside)))
        (λ (after : part.start + part.len ≤ n).
        let some : 0 < rest.len = omega (arith, says.below, after) in
        (rest, (each rest).1 (inl (some, refl)), says_part rest whole (rest_part part whole is some) w o n says after (omega (arith, says.below, after))))
        (cases_lt n (part.start + part.len)))
        (cases_lt n part.start)

    carved : HasPairIn R w o n ↔ Left
    carved = (
      λ found. ⊎_elim
          (λ (last : (0 < rest.len) × (found.0 ≡ rest)). left_of_rest last.0 (rw last.1 at found.2))
          (λ (kept : Q found.0). ⊎_elim
          (λ (first : (0 < len) × (found.0 ≡ record_front whole len)). left_of_front first.0 (rw first.1 at found.2))
          (λ (other : (found.0 ≢ whole) × Contains xs found.0). left_of_other found.0 other.0 other.1 found.2)
          ((front found.0).0 kept))
          ((each found.0).0 found.1),
      λ known. let old = known.0 in ⊎_elim
          (λ (same : old.0 ≡ whole). stays_of_whole (rw same at old.2) known.1)
          (λ (other : old.0 ≢ whole). (old.0, (each old.0).1 (inr ((front old.0).1 (inr (other, old.1)))), old.2))
          (same_or_other xs rules old.0 whole old.1 held),
    )

  -- they come back, or there are none
  pub put_back : (R : Reverse → Type 0) → 0 < rest.len → Gains Q rest R → (w o n : ℕ) → HasPairIn R w o n ↔ (HasPairIn (Contains xs) w o n × ¬ (IsPair part w o n))
  put_back R some more w o n =
      carved R (λ x. (
        λ after. ⊎_elim (λ (is : x ≡ rest). inl (some, is)) inr ((more x).0 after),
        ⊎_elim (λ (last : (0 < rest.len) × (x ≡ rest)). (more x).1 (inl last.1)) (λ (kept : Q x). (more x).1 (inr kept)),
      )) w o n

  pub none_behind : rest.len ≤ 0 → (w o n : ℕ) → HasPairIn Q w o n ↔ (HasPairIn (Contains xs) w o n × ¬ (IsPair part w o n))
  none_behind none w o n =
      carved Q (λ x. (inr, ⊎_elim (λ (last : (0 < rest.len) × (x ≡ rest)). absurd (omega (arith, last.0, none))) (λ (kept : Q x). kept))) w o n
