-- The record that leads to another one says the pair in front of it, and the one that it leads to the pair behind it.
use Rattle.std.proofs.Common.{◌≡◌, ℕ, ◌+◌, ◌-◌, ◌<◌, Bool, true, false, not, List, Option, Some, None, IfSome, refl, sym, ap, ◌∙◌, ⊎_elim, arith}
use Rattle.std.proofs.lemmas.Bool.{and_parts, cases_Bool}
use Rattle.std.proofs.lemmas.Bool.Decides.{nat_tests}
use Rattle.std.proofs.lemmas.Cmp.{tied_itself}
use Rattle.std.proofs.lemmas.List.Elements.{All-contains}
use Rattle.std.specs.List.{Contains}
use Rattle.std.specs.Ordering.{is_lt}
use Rattle.xr_block.specs.Tree.{AreRecords}
use Rattle.xr_kinds.specs.Reverse.{is_reverse, reverse_form, reverse_span}
use Rattle.xr_kinds.specs.ReverseLaws.{is_reverse_form}
use Rattle.xr_kinds.specs.SpanLaws.{group_run}
use Rattle.xr_kinds.specs.Spans.{end_of}
use Rattle.xr_kinds.specs.declared.reverse.Reverse.{Reverse}
use Rattle.xr_lookup.specs.Lookup.{IsLeast, from}
use Rattle.xr_rmap.specs.Joins.{offset_in_front}
use Rattle.xr_rmap.specs.PairLaws.{first_pair, front_offset, one_record, some_blocks, valid_in}
use Rattle.xr_rmap.specs.Pairs.{HasPairIn, IsPair, leads_to, offset_after}

module _ (x new : Reverse) (valid : is_reverse x ≡ true) where
  pub leads_front : leads_to x new ≡ true → IsPair x new.owner (front_offset new) (new.start - 1)
  leads_front leads = record {
    same_owner = grind (arith, nat_tests, leads);
    from = grind (arith, nat_tests, leads, some_blocks x valid);
    below = grind (arith, nat_tests, leads, some_blocks x valid);
    at = grind (arith, nat_tests, leads, some_blocks x valid);
  }

  pub leads_behind : leads_to new x ≡ true → IsPair x new.owner (offset_after new) (end_of (reverse_span new))
  leads_behind leads = record {
    same_owner = grind (arith, nat_tests, leads);
    from = grind (arith, nat_tests, leads);
    below = grind (arith, nat_tests, leads, some_blocks x valid);
    at = grind (arith, nat_tests, leads, valid);
  }

  -- what says the pair in front, but not the first one, leads on
  ends_there : IsPair x new.owner (front_offset new) (new.start - 1) → (o : ℕ) → offset_in_front new ≡ Some o → 0 < new.start
      → ¬ (new.start < x.start + x.len) → leads_to x new ≡ true
  ends_there says o is above end = grind (arith, nat_tests, says.same_owner, says.from, says.below, says.at, is, above, end)

  goes_on : IsPair x new.owner (front_offset new) (new.start - 1) → (o : ℕ) → offset_in_front new ≡ Some o → 0 < new.start
      → is_reverse new ≡ true → new.start < x.start + x.len → IsPair x new.owner new.off new.start
  goes_on says o is above good more = record {
    same_owner = says.same_owner;
    from = omega (arith, says.from);
    below = more;
    at = grind (arith, nat_tests, says.same_owner, says.from, says.at, is, above, good);
  }

same_front : (new : Reverse) (o : ℕ) → offset_in_front new ≡ Some o → front_offset new ≡ o
same_front new o is = grind (arith, nat_tests, is)

pub if_some : {X : Type 0} (P Q : X → Type 0) (o : Option X) → ((x : X) → P x → Q x) → IfSome o P → IfSome o Q
if_some P Q None to known = tt
if_some P Q (Some x) to known = to x known

module _ (xs : List Reverse) (rules : AreRecords reverse_form xs) (new : Reverse) (o : ℕ) (is : offset_in_front new ≡ Some o) where
  abbrev InFront : Reverse → Type 0
  InFront x = IsPair x new.owner o (new.start - 1)

  pub none_leads : ¬ (HasPairIn (Contains xs) new.owner o (new.start - 1)) → (x : Reverse) → Contains xs x → leads_to x new ≡ false
  none_leads none x held = ⊎_elim
      (λ (leads : leads_to x new ≡ true). absurd (none (x, held, rw (same_front new o is) at (leads_front x new (valid_in xs rules x held) leads))))
      (λ (other : leads_to x new ≡ false). other)
      (cases_Bool (leads_to x new))

  module _ (good : is_reverse new ≡ true) (alone : (w p n : ℕ) → IsPair new w p n → ¬ (HasPairIn (Contains xs) w p n)) where
    above : 0 < new.start
    above = let parts = and_parts _ _ good in let run = group_run (reverse_span new) parts.0 in omega (arith, run.0)

    leads : (x : Reverse) → Contains xs x → InFront x → leads_to x new ≡ true
    leads x held says =
        let front = rw (← same_front new o is) at says in
        let valid = valid_in xs rules x held in
        ends_there x new valid front o is above
        (λ more. alone new.owner new.off new.start (first_pair new good) (x, held, goes_on x new valid front o is above good more))

    pub one_leads : (found : Option Reverse) → IfSome found (λ x. Contains xs x × InFront x) → IfSome found (λ x. Contains xs x × (leads_to x new ≡ true))
    one_leads found known =
        if_some (λ (x : Reverse). Contains xs x × InFront x) (λ (x : Reverse). Contains xs x × (leads_to x new ≡ true)) found
        (λ x there. (there.0, leads x there.0 there.1)) known

-- two that a record leads to, or that lead to it, are one
module _ (xs : List Reverse) (rules : AreRecords reverse_form xs) (new x y : Reverse) (here : Contains xs x) (there : Contains xs y) where
  pub one_in_front : leads_to x new ≡ true → leads_to y new ≡ true → x ≡ y
  one_in_front one other = one_record xs rules x y here there new.owner (front_offset new) (new.start - 1)
      (leads_front x new (valid_in xs rules x here) one) (leads_front y new (valid_in xs rules y there) other)

  pub one_behind : leads_to new x ≡ true → leads_to new y ≡ true → x ≡ y
  one_behind one other = one_record xs rules x y here there new.owner (offset_after new) (end_of (reverse_span new))
      (leads_behind x new (valid_in xs rules x here) one) (leads_behind y new (valid_in xs rules y there) other)

-- the record that another leads to has the keys that are looked for
abbrev pub next_key : Reverse → Reverse
next_key new = record { start = new.start + new.len; len = 0; owner = new.owner; off = offset_after new }

led_keys : (new x : Reverse) → is_reverse x ≡ true → leads_to new x ≡ true → let key = next_key new in (x.start ≡ key.start) × (x.owner ≡ key.owner) × (x.off ≡ key.off)
led_keys new x good leads = (grind (arith, nat_tests, leads), grind (arith, nat_tests, leads), grind (arith, nat_tests, leads, good))

tied_keys : (a b : Reverse) → is_lt (reverse_form.order a b) ≡ false → is_lt (reverse_form.order b a) ≡ false → (a.start ≡ b.start) × (a.owner ≡ b.owner) × (a.off ≡ b.off)
tied_keys a b one other = (grind (arith, nat_tests), grind (arith, nat_tests), grind (arith, nat_tests))

alike : (new x y : Reverse) → x.start ≡ y.start → x.owner ≡ y.owner → x.off ≡ y.off → leads_to new x ≡ leads_to new y
alike new x y start owner off = rw (start, owner, off) refl

not_low : (t : Bool) → not t ≡ true → t ≡ false
not_low true lie = cc
not_low false is = refl

-- so where the first from these keys on isn't led to, none is
pub none_led : (xs : List Reverse) → AreRecords reverse_form xs → (new found : Reverse) → IsLeast reverse_form xs (from reverse_form (next_key new)) found
    → leads_to new found ≡ false → (x : Reverse) → Contains xs x → leads_to new x ≡ false
none_led xs rules new found least differs x held = ⊎_elim
    (λ (leads : leads_to new x ≡ true).
    let key = next_key new in
    let keys = led_keys new x (valid_in xs rules x held) leads in
    let one : reverse_form.order x found ≡ reverse_form.order key found = rw (keys.0, keys.1, keys.2) refl in
    let other : reverse_form.order x key ≡ reverse_form.order key key = rw (keys.0, keys.1, keys.2) refl in
    let wanted : from reverse_form key x ≡ true = ap (λ o. not (is_lt o)) (other ∙ tied_itself is_reverse_form.total key) in
    let low = All-contains (λ (y : Reverse). from reverse_form key y ≡ true → is_lt (reverse_form.order y found) ≡ false) xs x least.least held wanted in
    let tied = tied_keys key found (ap is_lt (sym one) ∙ low) (not_low (is_lt (reverse_form.order found key)) least.fits) in
    let same = alike new found x (sym tied.0 ∙ sym keys.0) (sym tied.1 ∙ sym keys.1) (sym tied.2 ∙ sym keys.2) in
    let lie : leads_to new found ≡ true = same ∙ leads in absurd cc)
    (λ (other : leads_to new x ≡ false). other)
    (cases_Bool (leads_to new x))
