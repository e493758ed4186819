-- A fresh image is settled, and what is free in a settled state is nobody's.
use Rattle.std.proofs.Common.{◌≡◌, ℕ, get_or, [], arith, refl, ap, sym, false, ⊎_elim, None, replicate, subst}
use Rattle.std.specs.Prelude.{IsTrue, IsSome, IfSome}
use Rattle.std.proofs.lemmas.Bool.{cases_lt}
use Rattle.std.proofs.lemmas.List.{get_or-replicate, get_or_past, length-replicate}
use Rattle.std.specs.Ordering.{nat_cmp}
use Rattle.std.specs.FinMap.{empty, get-empty}
use Rattle.xr_base.specs.declared.geometry.TheConstants.{FILES, OFFSETS}
use Rattle.xr_maps.specs.FileMaps.{FileMap, address_at, no_maps, AreGoodMaps}
use Rattle.xr_base.specs.Address.{IsData}
use Rattle.xr_maps.specs.Holdings.{holds, is_mapped, one_if, owners}
use Rattle.xr_balance.specs.Determined.{FreeIsNobodys}
use Rattle.xr_balance.specs.Fresh.{FreshIsSettled}
use Rattle.xr_balance.proofs.CountRolls.{count-free, given_when_zero}
use Rattle.xr_balance.proofs.CountSlots.{sum_below-none}
use Rattle.xr_balance.proofs.OrderLemmas.{order-none}

empty_at : (f o : ℕ) → address_at no_maps f o ≡ None
empty_at f o =
    let m : FileMap = empty in
    let it : get_or (replicate 32 m) f m ≡ m = ⊎_elim (λ l. get_or-replicate 32 f m m l) (λ past. get_or_past (replicate 32 m) f m (rw (length-replicate 32 m) past)) (cases_lt f 32) in
    rw it (get-empty nat_cmp o)

none_held : (f o b : ℕ) → holds no_maps f o b ≡ 0
none_held f o b = rw (empty_at f o) refl

none_mapped : (f o : ℕ) → is_mapped no_maps f o ≡ 0
none_mapped f o = rw (empty_at f o) refl

unowned : (b : ℕ) → owners no_maps b ≡ 0
unowned b = sum_below-none FILES _ (λ f _. sum_below-none OFFSETS _ (λ o _. none_held f o b))

no_truth : IsTrue false → ⊥
no_truth h = absurd (omega (arith, ap one_if h))

no_maps_good : AreGoodMaps no_maps
no_maps_good = record {
  files = let m : FileMap = empty in length-replicate 32 m;
  offsets = λ f o there. absurd (no_truth (subst (λ s. IsSome s) (empty_at f o) there));
  data_blocks = λ f o. subst (λ s. IfSome s IsData) (sym (empty_at f o)) tt;
}

pub fresh_is_settled : FreshIsSettled
fresh_is_settled C it = record {
  base = no_maps;
  good_base = no_maps_good;
  good_maps = no_maps_good;
  maps = record { base = λ f o b. omega (arith, ap (λ m. holds m f o b) it.maps); exchanged = λ f o b. refl };
  staging = record { staged = λ b. omega (arith, ap one_if (it.staged b)); data_only = λ b q. absurd (no_truth q); unowned = λ b q. unowned b };
  pairs = record { owners = λ f o b. omega (arith, none_held f o b, ap one_if (it.pairs f o b)); staging_pairs = λ b. omega (arith, ap one_if (it.staging_pairs b)) };
  counts = λ b is_data. omega (arith, unowned b, count-free C [] b (it.free b is_data));
  due = record {
    unmaps = λ f o b. omega arith;
    maps = λ f o. omega (arith, ap (λ m. is_mapped m f o) it.maps, none_mapped f o);
    removals = λ f o b. omega arith;
    additions = λ f o b. omega (arith, ap one_if (it.pairs f o b));
    staging_removals = λ b. omega arith;
    staging_additions = λ b. omega (arith, ap one_if (it.staging_pairs b));
    stagings = λ b some. it.counted b;
    unstagings = λ b. omega arith;
  };
  blocks = record {
    counted_some = λ b. omega (arith, it.counted b);
    owned_data = λ b some. absurd (omega (arith, some, unowned b));
    named_groups = λ b some. absurd (omega (arith, some));
    counted_unstaged = λ b some. (it.staged b, refl);
    free_unnamed = λ b free. refl;
    free_unshared = λ b free. it.counted b;
    freed_unshared = λ b some. it.counted b;
    freed_once = λ b. omega arith;
    staged_once = λ b. omega (arith, ap one_if (it.staged b));
    two_owners = λ b. omega arith;
  };
  offsets = record { unmaps = λ f o. omega arith; maps = λ f o. omega arith; removals = λ f o. omega arith; additions = λ f o. omega arith };
  valid = λ k d l. absurd (omega (arith, l));
  parted = record {
    lanes = λ k d l. absurd (omega (arith, l));
    agree = λ i j d less l. absurd (omega (arith, l));
    chains = λ lane. record { order = order-none; short = omega arith; given_once = omega arith; raised_once = omega arith; one = 0; two = 0; files = λ f it. absurd (omega (arith, it)); apart = λ it. refl };
  };
}

pub free_is_nobodys : FreeIsNobodys
free_is_nobodys C P M Q b was is_data free = let it = given_when_zero b was is_data (count-free C P b free) in (it.unowned, it.unstaged)
