-- Which extents stand beside an offset or a new extent, by what lookups find.
use Rattle.std.proofs.Common.{◌≡◌, ◌≢◌, ◌⊎◌, ℕ, ◌+◌, ◌-◌, ◌≤◌, nat_lt, true, false, if◌then◌else◌, List, Option, Some, None, IfSome, IsNone, ap, refl, ◌∙◌, inl, inr, ⊎_elim, arith}
use Rattle.std.proofs.lemmas.Bool.{cases_Bool}
use Rattle.std.proofs.lemmas.Bool.Decides.{nat_tests}
use Rattle.std.proofs.lemmas.List.Elements.{All-contains}
use Rattle.std.specs.List.{Contains}
use Rattle.std.specs.Option.{is_some}
use Rattle.std.specs.Ordering.{is_gt}
use Rattle.xr_block.specs.Tree.{AreRecords}
use Rattle.xr_bmap.proofs.PartLemmas.{joined_fits, joined_good}
use Rattle.xr_bmap.specs.SlotLaws.{agrees, known_slot, one_extent, valid_in}
use Rattle.xr_bmap.specs.Joins.{MayJoinExtent, joined_extents}
use Rattle.xr_bmap.specs.Slots.{HasOffset, IsHole, mapped_in}
use Rattle.xr_change.specs.SetLaws.{agree_in}
use Rattle.xr_change.specs.Sets.{Loses}
use Rattle.xr_kinds.specs.Mapping.{is_mapping, mapping_form, runs_on}
use Rattle.xr_kinds.specs.MappingLaws.{is_mapping_form}
use Rattle.xr_kinds.specs.declared.mapping.Mapping.{Mapping}
use Rattle.xr_lookup.specs.Lookup.{AreUnwanted, IsGreatest, from, up_to}

abbrev pub probe : ℕ → Mapping
probe off = record { off = off; at = 0; len = 0 }

starts_up_to : (x : Mapping) (off : ℕ) → HasOffset x off → up_to mapping_form (probe off) x ≡ true
starts_up_to x off has = grind (arith, nat_tests)

holds_other : (x last : Mapping) (off : ℕ) → HasOffset x off → is_mapping last ≡ true → mapping_form.agree x last ≡ true
    → up_to mapping_form (probe off) last ≡ true → is_gt (mapping_form.order x last) ≡ false → ⊥
holds_other x last off has good agree starts above = grind (arith, nat_tests)

pub last_starts : (last : Mapping) (off : ℕ) → up_to mapping_form (probe off) last ≡ true → last.off ≤ off
last_starts last off starts = grind (arith, nat_tests)

pub next_starts : (next : Mapping) (off : ℕ) → from mapping_form (probe off) next ≡ true → off ≤ next.off
next_starts next off starts = grind (arith, nat_tests)

module _ (xs : List Mapping) (rules : AreRecords mapping_form xs) (off : ℕ) where
  pub none_up_to : AreUnwanted (up_to mapping_form (probe off)) xs → (x : Mapping) → Contains xs x → ¬ (HasOffset x off)
  none_up_to none x held has =
      let unwanted = All-contains (λ (y : Mapping). up_to mapping_form (probe off) y ≡ false) xs x none held in
      let wanted = starts_up_to x off has in
      absurd cc

  pub none_holds : (last : Mapping) → IsGreatest mapping_form xs (up_to mapping_form (probe off)) last → ¬ (HasOffset last off)
      → (x : Mapping) → Contains xs x → ¬ (HasOffset x off)
  none_holds last greatest ends x held has = ⊎_elim
      (λ (same : x ≡ last). ends (rw same at has))
      (λ (agree : mapping_form.agree x last ≡ true).
      holds_other x last off has (valid_in xs rules last greatest.held) agree greatest.fits
      (All-contains (λ (y : Mapping). up_to mapping_form (probe off) y ≡ true → is_gt (mapping_form.order y last) ≡ false) xs x greatest.greatest held
      (starts_up_to x off has)))
      (agree_in mapping_form is_mapping_form xs rules x last held greatest.held)

-- an extent that goes on another has the offset in front of it, and that which it goes on the offset behind
pub leads_front : (x new : Mapping) → is_mapping x ≡ true → runs_on x new ≡ true → HasOffset x (new.off - 1)
leads_front x new good on = grind (arith, nat_tests)

pub leads_behind : (new x : Mapping) → is_mapping x ≡ true → runs_on new x ≡ true → HasOffset x (new.off + new.len)
leads_behind new x good on = grind (arith, nat_tests)

module _ (xs : List Mapping) (rules : AreRecords mapping_form xs) (new : Mapping) where
  pub none_in_front : ((x : Mapping) → Contains xs x → ¬ (HasOffset x (new.off - 1))) → (x : Mapping) → Contains xs x → runs_on x new ≡ false
  none_in_front none x held = ⊎_elim
      (λ (on : runs_on x new ≡ true). absurd (none x held (leads_front x new (valid_in xs rules x held) on)))
      (λ (no : runs_on x new ≡ false). no)
      (cases_Bool (runs_on x new))

  pub one_in_front : (found : Mapping) → Contains xs found → HasOffset found (new.off - 1) → runs_on found new ≡ false
      → (x : Mapping) → Contains xs x → runs_on x new ≡ false
  one_in_front found there has not x held = ⊎_elim
      (λ (on : runs_on x new ≡ true).
      let same = one_extent xs rules x found (new.off - 1) held there (leads_front x new (valid_in xs rules x held) on) has in
      rw same not)
      (λ (no : runs_on x new ≡ false). no)
      (cases_Bool (runs_on x new))

  pub none_behind : ((x : Mapping) → Contains xs x → ¬ (HasOffset x (new.off + new.len))) → (x : Mapping) → Contains xs x → runs_on new x ≡ false
  none_behind none x held = ⊎_elim
      (λ (on : runs_on new x ≡ true). absurd (none x held (leads_behind new x (valid_in xs rules x held) on)))
      (λ (no : runs_on new x ≡ false). no)
      (cases_Bool (runs_on new x))

  pub one_behind : (found : Mapping) → Contains xs found → HasOffset found (new.off + new.len) → runs_on new found ≡ false
      → (x : Mapping) → Contains xs x → runs_on new x ≡ false
  one_behind found there has not x held = ⊎_elim
      (λ (on : runs_on new x ≡ true).
      let same = one_extent xs rules x found (new.off + new.len) held there (leads_behind new x (valid_in xs rules x held) on) has in
      rw same not)
      (λ (no : runs_on new x ≡ false). no)
      (cases_Bool (runs_on new x))

pub none_first : (x new : Mapping) → is_mapping x ≡ true → new.off ≡ 0 → runs_on x new ≡ false
none_first x new good first = grind (arith, nat_tests)

-- two extents that neither agree nor run on have an offset in common
common : Mapping → Mapping → ℕ
common x new = if nat_lt x.off new.off then new.off else x.off

has_common : (x new : Mapping) → is_mapping x ≡ true → is_mapping new ≡ true → mapping_form.agree x new ≡ false → runs_on x new ≡ false
    → runs_on new x ≡ false → HasOffset x (common x new) × HasOffset new (common x new)
unfolding common
has_common x new one other clash left right = (grind (arith, nat_tests), grind (arith, nat_tests))

not_both_ways : (x new : Mapping) → is_mapping new ≡ true → runs_on x new ≡ true → is_mapping x ≡ true → runs_on new x ≡ false
not_both_ways x new good leads more = grind (arith, nat_tests)

one_led : (x y new : Mapping) → runs_on x new ≡ true → runs_on y new ≡ true → mapping_form.agree x y ≡ true → is_mapping x ≡ true → is_mapping y ≡ true → ⊥
one_led x y new one other agree good valid = grind (arith, nat_tests)

one_next : (x y new : Mapping) → runs_on new x ≡ true → runs_on new y ≡ true → mapping_form.agree x y ≡ true → is_mapping x ≡ true → is_mapping y ≡ true → ⊥
one_next x y new one other agree good valid = grind (arith, nat_tests)

if_some : {X : Type 0} (P Q : X → Type 0) (o : Option X) → ((x : X) → P x → Q x) → IfSome o P → IfSome o Q
if_some P Q None to known = tt
if_some P Q (Some x) to known = to x known

joined_led : (x new next : Mapping) → runs_on x new ≡ true → runs_on x (joined_extents new next) ≡ true
joined_led x new next on = grind (arith, nat_tests)

module _ (xs : List Mapping) (rules : AreRecords mapping_form xs) (new : Mapping) (good : is_mapping new ≡ true)
    (hole : IsHole (mapped_in xs) new.off new.len) (left : Option Mapping)
    (none : IsNone left → (x : Mapping) → Contains xs x → runs_on x new ≡ false) (some : IfSome left (λ x. Contains xs x × (runs_on x new ≡ true))) where
  alone : (x : Mapping) (o : ℕ) → Contains xs x → HasOffset x o → HasOffset new o → ⊥
  alone x o held has mine = let is = known_slot xs rules x held o has in let empty = hole o mine in cc

  is_left : (l : Option Mapping) → left ≡ l → (x : Mapping) → Contains xs x → runs_on x new ≡ true → left ≡ Some x
  is_left None is x held leads = let lie : runs_on x new ≡ false = none (ap is_some is) x held in absurd cc
  is_left (Some l) is x held leads =
      let known = rw is at some in
      ⊎_elim
      (λ (same : l ≡ x). is ∙ ap Some same)
      (λ (agree : mapping_form.agree l x ≡ true).
      absurd (one_led l x new known.1 leads agree (valid_in xs rules l known.0) (valid_in xs rules x held)))
      (agree_in mapping_form is_mapping_form xs rules l x known.0 held)

  agrees_or_leads : (x : Mapping) → Contains xs x → runs_on new x ≡ false → (left ≡ Some x) ⊎ (mapping_form.agree x new ≡ true)
  agrees_or_leads x held right = ⊎_elim
      (λ (leads : runs_on x new ≡ true). inl (is_left left refl x held leads))
      (λ (no : runs_on x new ≡ false). ⊎_elim inr
      (λ (clash : mapping_form.agree x new ≡ false).
      let both = has_common x new (valid_in xs rules x held) good clash no right in
      absurd (alone x (common x new) held both.0 both.1))
      (cases_Bool (mapping_form.agree x new)))
      (cases_Bool (runs_on x new))

  -- nothing goes it on
  pub may_join : ((x : Mapping) → Contains xs x → runs_on new x ≡ false) → MayJoinExtent (Contains xs) new left
  may_join right = record { good = good; held = some; alone = λ x held. agrees_or_leads x held (right x held) }

  -- what goes it on is taken out, and comes back as one with the new one
  module _ (ys : List Mapping) (next : Mapping) (held : Contains xs next) (leads : runs_on new next ≡ true) (out : Loses (Contains xs) next (Contains ys)) where
    not_next : (x : Mapping) → Contains xs x → runs_on x new ≡ true → x ≢ next
    not_next x within into same =
        let no = not_both_ways x new good into (valid_in xs rules x within) in
        let lie : runs_on new next ≡ false = rw same at no in absurd cc

    not_led : (x : Mapping) → Contains xs x → x ≢ next → runs_on new x ≡ false
    not_led x within differ = ⊎_elim
        (λ (both : runs_on new x ≡ true).
        absurd (one_next x next new both leads (agrees xs rules x next within held differ) (valid_in xs rules x within) (valid_in xs rules next held)))
        (λ (no : runs_on new x ≡ false). no)
        (cases_Bool (runs_on new x))

    pub may_join_both : MayJoinExtent (Contains ys) (joined_extents new next) left
    may_join_both = record {
      good = joined_good new next good (valid_in xs rules next held) leads;
      held = if_some (λ (x : Mapping). Contains xs x × (runs_on x new ≡ true)) (λ (x : Mapping). Contains ys x × (runs_on x (joined_extents new next) ≡ true)) left
          (λ x known. ((out x).1 (not_next x known.0 known.1, known.0), joined_led x new next known.1)) some;
      alone = λ x within.
          let kept = (out x).0 within in
          ⊎_elim inl
          (λ (agree : mapping_form.agree x new ≡ true).
          inr (joined_fits new next good (valid_in xs rules next held) leads x agree (agrees xs rules x next kept.1 held kept.0)))
          (agrees_or_leads x kept.1 (not_led x kept.1 kept.0));
    }
