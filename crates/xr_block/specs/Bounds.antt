-- Places in the order of records: which records stand before one, and where it falls among the items of a block.
use Rattle.std.specs.Prelude.{◌≡◌, ℕ, ◌≤◌, Bool, true, false, List, length, take}
use Rattle.std.specs.List.{AllPairs, AllWithin}
use Rattle.std.specs.Ordering.{is_ge, is_gt, is_le, is_lt}
use Rattle.xr_block.specs.declared.bound.Bound.{Bound}
use Rattle.xr_block.specs.declared.bound.Bound.TheVariants.{Start, Before, After}
use Rattle.xr_kinds.specs.Form.{Form}
use Rattle.xr_block.specs.TreeBlock.{Entry}

abbrev pub is_before : {X : Type 0} → Form X → Bound X → X → Bool
is_before form Start x = false
is_before form (Before r) x = is_lt (form.order x r)
is_before form (After r) x = is_le (form.order x r)

-- the same of the records with a key, and of the first record under a child
abbrev pub key_is_before : {X : Type 0} → Form X → Bound X → List ℕ → Bool
key_is_before form Start key = false
key_is_before form (Before r) key = is_gt (form.key_order r key)
key_is_before form (After r) key = is_ge (form.key_order r key)

abbrev pub entry_is_before : {X : Type 0} → Form X → Bound X → Entry → Bool
entry_is_before form bound e = key_is_before form bound (take form.low e.key)

-- no item passes the test after one that doesn't
abbrev pub IsParted : {X : Type 0} → (X → Bool) → List X → Type 0
IsParted test xs = AllPairs (λ a b. test b ≡ true → test a ≡ true) xs

-- the items below a place pass the test, and those from it on don't
pub record IsPlaceOf {X : Type 0} (test : X → Bool) (xs : List X) (place : ℕ) : Type 0 where
  pub within : place ≤ length xs
  pub below : AllWithin (λ (x : X). test x ≡ true) xs 0 place
  pub from : AllWithin (λ (x : X). test x ≡ false) xs place (length xs)

-- the same between two places: what is known while the place is looked for
pub record IsBetween {X : Type 0} (test : X → Bool) (xs : List X) (low high : ℕ) : Type 0 where
  pub ordered : low ≤ high
  pub within : high ≤ length xs
  pub below : AllWithin (λ (x : X). test x ≡ true) xs 0 low
  pub from : AllWithin (λ (x : X). test x ≡ false) xs high (length xs)
