-- A record that comes into a tree, as one with those beside it: which it may be, and which pairs there are then.
use Rattle.std.proofs.Common.{◌≡◌, ◌≢◌, ◌⊎◌, ◌↔◌, ℕ, ◌+◌, ◌-◌, ◌<◌, ◌==◌, nat_lt, true, false, if◌then◌else◌, List, Option, Some, None, IfSome, IsNone, refl, ap, ◌∙◌, inl, inr, ⊎_elim, arith}
use Rattle.std.proofs.lemmas.Bool.{cases_Bool}
use Rattle.std.proofs.lemmas.Bool.Decides.{nat_tests}
use Rattle.std.specs.List.{Contains}
use Rattle.std.specs.Option.{is_some}
use Rattle.xr_base.specs.declared.geometry.TheConstants.{OWN_COW}
use Rattle.xr_block.specs.Tree.{AreRecords}
use Rattle.xr_change.specs.Sets.{Loses}
use Rattle.xr_kinds.specs.Reverse.{is_reverse, reverse_form}
use Rattle.xr_kinds.specs.declared.reverse.Reverse.{Reverse}
use Rattle.xr_rmap.proofs.BesideLemmas.{if_some, one_behind, one_in_front}
use Rattle.xr_rmap.proofs.PairSetLemmas.{agrees, same_or_other}
use Rattle.xr_rmap.proofs.PartLemmas.{joined, joined_fits, joined_good, joined_says}
use Rattle.xr_rmap.specs.Joins.{MayJoin}
use Rattle.xr_rmap.specs.PairLaws.{some_blocks, valid_in}
use Rattle.xr_rmap.specs.Pairs.{HasPairIn, IsPair, leads_to}

-- two records on one line that aren't apart: one leads to the other, or both have a block
touch_or_meet : (x new : Reverse) → is_reverse x ≡ true → is_reverse new ≡ true → reverse_form.agree x new ≡ false → leads_to x new ≡ false
    → leads_to new x ≡ false → (new.owner ≡ x.owner) × (x.start < new.start + new.len) × (new.start < x.start + x.len)
touch_or_meet x new one other clash left right =
    (grind (arith, nat_tests, clash), grind (arith, nat_tests, clash, left, right, one, other), grind (arith, nat_tests, clash, left, right, one, other))

abbrev common_block : Reverse → Reverse → ℕ
common_block x new = if nat_lt x.start new.start then new.start else x.start

abbrev common_offset : Reverse → Reverse → ℕ
common_offset x new = if new.owner == OWN_COW then 0 else new.off + (common_block x new - new.start)

common_mine : (x new : Reverse) → x.start < new.start + new.len → 0 < new.len → IsPair new new.owner (common_offset x new) (common_block x new)
common_mine x new below some = record {
  same_owner = refl;
  from = grind (arith, nat_tests);
  below = grind (arith, nat_tests);
  at = grind (arith, nat_tests);
}

common_other : (x new : Reverse) → reverse_form.agree x new ≡ false → is_reverse new ≡ true → new.start < x.start + x.len → 0 < x.len
    → IsPair x new.owner (common_offset x new) (common_block x new)
common_other x new clash good below some = record {
  same_owner = grind (arith, nat_tests, clash);
  from = grind (arith, nat_tests);
  below = grind (arith, nat_tests);
  at = grind (arith, nat_tests, clash, good);
}

-- what leads to a record isn't what that leads to
not_both_ways : (x new : Reverse) → is_reverse new ≡ true → leads_to x new ≡ true → is_reverse x ≡ true → leads_to new x ≡ false
not_both_ways x new good leads more = grind (arith, nat_tests)

module _ (xs : List Reverse) (rules : AreRecords reverse_form xs) (new : Reverse) (good : is_reverse new ≡ true)
    (alone : (w o n : ℕ) → IsPair new w o n → ¬ (HasPairIn (Contains xs) w o n)) (left : Option Reverse)
    (none : IsNone left → (x : Reverse) → Contains xs x → leads_to x new ≡ false) (some : IfSome left (λ x. Contains xs x × (leads_to x new ≡ true))) where
  is_left : (l : Option Reverse) → left ≡ l → (x : Reverse) → Contains xs x → leads_to x new ≡ true → left ≡ Some x
  is_left None is x held leads = let lie : leads_to x new ≡ false = none (ap is_some is) x held in absurd cc
  is_left (Some l) is x held leads = let known = rw is at some in is ∙ ap Some (one_in_front xs rules new l x known.0 held known.1 leads)

  agrees_or_leads : (x : Reverse) → Contains xs x → leads_to new x ≡ false → (left ≡ Some x) ⊎ (reverse_form.agree x new ≡ true)
  agrees_or_leads x held right =
      let valid = valid_in xs rules x held in
      ⊎_elim
      (λ (leads : leads_to x new ≡ true). inl (is_left left refl x held leads))
      (λ (no : leads_to x new ≡ false). ⊎_elim inr
      (λ (clash : reverse_form.agree x new ≡ false).
      let meets = touch_or_meet x new valid good clash no right in
      absurd (alone new.owner (common_offset x new) (common_block x new) (common_mine x new meets.1 (some_blocks new good))
      (x, held, common_other x new clash good meets.2 (some_blocks x valid))))
      (cases_Bool (reverse_form.agree x new)))
      (cases_Bool (leads_to x new))

  -- nothing is behind it
  pub may_join : ((x : Reverse) → Contains xs x → leads_to new x ≡ false) → MayJoin (Contains xs) new left
  may_join right = record { good = good; held = some; alone = λ x held. agrees_or_leads x held (right x held) }

  -- the record behind is taken out, and comes back as one with the new one
  module _ (ys : List Reverse) (next : Reverse) (held : Contains xs next) (leads : leads_to new next ≡ true) (out : Loses (Contains xs) next (Contains ys)) where
    good_next : is_reverse next ≡ true
    good_next = valid_in xs rules next held

    not_next : (x : Reverse) → Contains xs x → leads_to x new ≡ true → x ≢ next
    not_next x within into same =
        let no = not_both_ways x new good into (valid_in xs rules x within) in
        let lie : leads_to new next ≡ false = rw same at no in absurd cc

    not_led : (x : Reverse) → Contains xs x → x ≢ next → leads_to new x ≡ false
    not_led x within differ = ⊎_elim
        (λ (both : leads_to new x ≡ true). absurd (differ (one_behind xs rules new x next within held both leads)))
        (λ (no : leads_to new x ≡ false). no)
        (cases_Bool (leads_to new x))

    pub may_join_both : MayJoin (Contains ys) (joined new next) left
    may_join_both = record {
      good = joined_good new next good good_next leads;
      held = if_some (λ (x : Reverse). Contains xs x × (leads_to x new ≡ true)) (λ (x : Reverse). Contains ys x × (leads_to x (joined new next) ≡ true)) left
          (λ x known. ((out x).1 (not_next x known.0 known.1, known.0), known.1)) some;
      alone = λ x within.
          let kept = (out x).0 within in
          ⊎_elim inl
          (λ (agree : reverse_form.agree x new ≡ true).
          inr (joined_fits new next good good_next leads x agree (agrees xs rules x next kept.1 held kept.0)))
          (agrees_or_leads x kept.1 (not_led x kept.1 kept.0));
    }

    pub added_both : (all : Reverse → Type 0) (w o n : ℕ) → (HasPairIn all w o n ↔ (HasPairIn (Contains ys) w o n ⊎ IsPair (joined new next) w o n))
        → HasPairIn all w o n ↔ (HasPairIn (Contains xs) w o n ⊎ IsPair new w o n)
    added_both all w o n joins =
        let both = joined_says new next good good_next leads w o n in (
          λ found. ⊎_elim
              (λ (old : HasPairIn (Contains ys) w o n). let kept = (out old.0).0 old.1 in inl (old.0, kept.1, old.2))
              (λ (says : IsPair (joined new next) w o n).
              ⊎_elim inr (λ (behind : IsPair next w o n). inl (next, held, behind)) (both.0 says))
              (joins.0 found),
          λ known. joins.1 (⊎_elim
              (λ (old : HasPairIn (Contains xs) w o n). ⊎_elim
              (λ (same : old.0 ≡ next). inr (both.1 (inr (rw same at old.2))))
              (λ (other : old.0 ≢ next). inl (old.0, (out old.0).1 (other, old.1), old.2))
              (same_or_other xs rules old.0 next old.1 held))
              (λ (mine : IsPair new w o n). inr (both.1 (inl mine)))
              known),
        )
