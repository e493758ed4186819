-- A part of a record is as good as it, agrees with what it agrees with, and says those of its pairs whose blocks it has.
use Rattle.std.proofs.Common.{◌≡◌, ◌⊎◌, ◌↔◌, ℕ, ◌+◌, ◌-◌, ◌<◌, ◌≤◌, true, List, refl, sym, inl, inr, ⊎_elim, arith}
use Rattle.std.proofs.lemmas.Bool.{cases_lt}
use Rattle.std.proofs.lemmas.Bool.Decides.{nat_tests}
use Rattle.std.specs.List.{Contains}
use Rattle.xr_block.specs.Tree.{AreRecords}
use Rattle.xr_kinds.specs.Reverse.{is_reverse, reverse_form, reverse_span}
use Rattle.xr_kinds.specs.Spans.{end_of}
use Rattle.xr_kinds.specs.declared.reverse.Reverse.{Reverse}
use Rattle.xr_rmap.specs.Joins.{IsPartOf, record_front, rest_after}
use Rattle.xr_rmap.specs.PairLaws.{nothing_after, some_blocks}
use Rattle.xr_rmap.specs.Pairs.{HasPairIn, IsPair, leads_to, offset_after}

module _ (part whole : Reverse) (is : IsPartOf part whole) where
  pub part_good : is_reverse whole ≡ true → is_reverse part ≡ true
  part_good good = grind (arith, nat_tests, is.some, is.same_owner, is.from, is.up_to, is.at)

  pub part_fits : (x : Reverse) → reverse_form.agree x whole ≡ true → reverse_form.agree x part ≡ true
  part_fits x agree = grind (arith, nat_tests, is.some, is.same_owner, is.from, is.up_to, is.at)

  module _ (w o n : ℕ) where
    pub part_says : IsPair part w o n → IsPair whole w o n
    part_says says = record {
      same_owner = grind (arith, is.same_owner, says.same_owner);
      from = omega (arith, is.from, says.from);
      below = omega (arith, is.up_to, says.below);
      at = grind (arith, nat_tests, is.same_owner, is.at, says.at);
    }

    pub says_part : IsPair whole w o n → part.start ≤ n → n < end_of (reverse_span part) → IsPair part w o n
    says_part says from below = record {
      same_owner = grind (arith, is.same_owner, says.same_owner);
      from = from;
      below = below;
      at = grind (arith, nat_tests, is.same_owner, is.at, says.at);
    }

-- the first blocks of a record, and those behind a part of it
pub front_part : (r : Reverse) → is_reverse r ≡ true → (len : ℕ) → 0 < len → len ≤ r.len → IsPartOf (record_front r len) r
front_part r good len some fits =
    record { some = some; same_owner = refl; from = omega arith; up_to = omega (arith, fits); at = grind (arith, nat_tests) }

pub rest_part : (part whole : Reverse) → IsPartOf part whole → let rest = rest_after whole part in 0 < rest.len → IsPartOf rest whole
rest_part part whole is some = record {
  some = some;
  same_owner = is.same_owner;
  from = omega (arith, is.from);
  up_to = omega (arith, is.up_to);
  at = grind (arith, nat_tests, is.same_owner, is.at);
}

-- the two have a block of the part between them
pub front_fits : (whole part : Reverse) → IsPartOf part whole → reverse_form.agree (record_front whole (part.start - whole.start)) (rest_after whole part) ≡ true
front_fits whole part is = grind (arith, nat_tests, is.some, is.from)

-- all pairs of a record that are there stand in one other, that of the first
pub held_part : (xs : List Reverse) → AreRecords reverse_form xs → (part whole : Reverse) → is_reverse part ≡ true → Contains xs whole
    → IsPair whole part.owner part.off part.start → ((w o n : ℕ) → IsPair part w o n → HasPairIn (Contains xs) w o n) → IsPartOf part whole
held_part xs rules part whole good held says all = record {
  some = some_blocks part good;
  same_owner = sym says.same_owner;
  from = says.from;
  up_to = ⊎_elim
      (λ (less : whole.start + whole.len < part.start + part.len).
      absurd (nothing_after xs rules whole held (all whole.owner (offset_after whole) (whole.start + whole.len) (record {
        same_owner = sym says.same_owner;
        from = omega (arith, says.below);
        below = less;
        at = grind (arith, nat_tests, says.same_owner, says.at);
      }))))
      (λ (fits : part.start + part.len ≤ whole.start + whole.len). fits)
      (cases_lt (whole.start + whole.len) (part.start + part.len));
  at = says.at;
}

-- a record as one with another that leads to it
abbrev pub joined : Reverse → Reverse → Reverse
joined x r = record { start = x.start; len = x.len + r.len; owner = x.owner; off = x.off }

module _ (x r : Reverse) (one : is_reverse x ≡ true) (other : is_reverse r ≡ true) (leads : leads_to x r ≡ true) where
  pub joined_good : is_reverse (joined x r) ≡ true
  joined_good = grind (arith, nat_tests)

  pub joined_fits : (y : Reverse) → reverse_form.agree y x ≡ true → reverse_form.agree y r ≡ true → reverse_form.agree y (joined x r) ≡ true
  joined_fits y agree agrees = grind (arith, nat_tests)

  first_part : IsPartOf x (joined x r)
  first_part = front_part (joined x r) joined_good x.len (some_blocks x one) (omega arith)

  second_start : r.start ≡ x.start + x.len
  second_start = grind (arith, nat_tests)

  second_part : IsPartOf r (joined x r)
  second_part = record {
    some = some_blocks r other;
    same_owner = grind (arith, nat_tests);
    from = omega (arith, second_start);
    up_to = omega (arith, second_start);
    at = grind (arith, nat_tests);
  }

  pub joined_says : (w o n : ℕ) → IsPair (joined x r) w o n ↔ (IsPair x w o n ⊎ IsPair r w o n)
  joined_says w o n = (
    λ says. ⊎_elim
        (λ (low : n < x.start + x.len). inl (says_part x (joined x r) first_part w o n says says.from low))
        (λ (high : x.start + x.len ≤ n).
        inr (says_part r (joined x r) second_part w o n says (omega (arith, second_start, high)) (omega (arith, second_start, says.below))))
        (cases_lt n (x.start + x.len)),
    ⊎_elim (part_says x (joined x r) first_part w o n) (part_says r (joined x r) second_part w o n),
  )
