-- The groups of an image, one after another.
use Rattle.std.proofs.Common.{◌≡◌, ◌∙◌, ◌⊎◌, ℕ, ◌+◌, ◌<◌, ◌≤◌, List, [], ◌∷◌, ◌++◌, ap, sym, subst, refl, ⊎_elim, arith}
use Rattle.std.proofs.lemmas.Bool.{cases_lt}
use Rattle.std.proofs.lemmas.List.FromFn.{get_or-map-range_with_len, length-map-range_with_len, map-range_with_len_more}
use Rattle.xr_base.specs.declared.geometry.TheConstants.{GROUPS}
use Rattle.xr_check.proofs.FaultLemmas.{names_more}
use Rattle.xr_check.specs.CleanImages.{HasGroupsBelow, IsGroupOfImage, bytes_of_group, groups_below}
use Rattle.xr_check.specs.Reading.{RefusesGroups, RefusesOneGroup}
use Rattle.xr_check.specs.Verdicts.{AreFirstGroups}
use Rattle.xr_check.specs.declared.fault.Broken.{Broken}
use Rattle.xr_check.specs.declared.fault.CheckFault.{CheckFault}
use Rattle.xr_group.specs.Group.{GroupState}
use Rattle.xr_group.specs.OpenGroup.{opened_group}

pub none_loaded : (image uuid : List ℕ) → [] ≡ groups_below 0 image uuid
unfolding groups_below
none_loaded image uuid = refl

pub group_more : (image uuid : List ℕ) (n : ℕ) (groups : List GroupState) (group : GroupState) → groups ≡ groups_below n image uuid
    → group ≡ opened_group n uuid (bytes_of_group image n) → groups ++ group ∷ [] ≡ groups_below (n + 1) image uuid
unfolding groups_below
group_more image uuid n groups group before is =
    ap (λ (gs : List GroupState). gs ++ group ∷ []) before
    ∙ ap (λ (g : GroupState). groups_below n image uuid ++ g ∷ []) is
    ∙ sym (map-range_with_len_more (λ k. opened_group k uuid (bytes_of_group image k)) 0 n n (omega arith))

pub right_more : (image uuid : List ℕ) (n : ℕ) → HasGroupsBelow image uuid n → IsGroupOfImage image uuid n → HasGroupsBelow image uuid (n + 1)
right_more image uuid n right here k below = ⊎_elim
    (λ (less : k < n). right k less)
    (λ (not_less : n ≤ k). let is : n ≡ k = omega (arith, below, not_less) in subst (IsGroupOfImage image uuid) is here)
    (cases_lt k n)

pub first_refused : (image uuid : List ℕ) (n : ℕ) (fault : CheckFault) → n < GROUPS → HasGroupsBelow image uuid n → RefusesOneGroup image uuid n fault
    → RefusesGroups image uuid fault
first_refused image uuid n fault known right = names_more _ _
    (λ block rule broken. (n, record { known = known; before = right; cause = broken.0; refused = broken.1; told = broken.2 }))
    fault

-- they have their numbers
pub groups_are_first : (image uuid : List ℕ) (n : ℕ) → AreFirstGroups (groups_below n image uuid) n
unfolding groups_below
groups_are_first image uuid n =
    let group : ℕ → GroupState = λ k. opened_group k uuid (bytes_of_group image k) in record {
      count = length-map-range_with_len group 0 n;
      numbers = λ k d below. ap (λ (g : GroupState). g.number) (get_or-map-range_with_len group 0 n k k d below (omega arith));
    }
