-- Which records may come into a tree, alone or in the place of another, and what is so of its records afterwards: which they are, how
-- many, and that they keep their rules.
use Rattle.std.specs.Prelude.{◌≡◌, ◌≢◌, ◌+◌, ◌<◌, true, false, List, length}
use Rattle.std.specs.List.{Contains}
use Rattle.std.specs.Ordering.{is_eq}
use Rattle.std.specs.declared.cmp.Ordering.{Ordering}
use Rattle.std.specs.declared.cmp.Ordering.TheVariants.{Less}
use Rattle.xr_block.specs.Tree.{AreRecords}
use Rattle.xr_change.specs.Sets.{Gains, Loses, Swaps, inserted, removed, replaced}
use Rattle.xr_kinds.specs.Form.{Form}

-- a record with a place of its own, which agrees with each other one
pub record MayInsert {X : Type 0} (form : Form X) (records : List X) (r : X) : Type 0 where
  pub valid : form.is_valid r ≡ true
  pub other : (x : X) → Contains records x → is_eq (form.order x r) ≡ false
  pub agree : (x : X) → Contains records x → form.agree x r ≡ true
  pub few : length records < form.most

-- what stands below or above one record stands so to another
pub record KeepsPlace {X : Type 0} (order : X → X → Ordering) (records : List X) (old new : X) : Type 0 where
  pub below : (x : X) → Contains records x → order x old ≡ Less → order x new ≡ Less
  pub after : (x : X) → Contains records x → order old x ≡ Less → order new x ≡ Less

-- a record in the place of another, which agrees with each of the rest
pub record MayReplace {X : Type 0} (form : Form X) (records : List X) (old new : X) : Type 0 where
  pub held : Contains records old
  pub valid : form.is_valid new ≡ true
  pub place : KeepsPlace form.order records old new
  pub agree : (x : X) → Contains records x → x ≢ old → form.agree x new ≡ true

abbrev pub InsertionKeepsRules : {X : Type 0} → Form X → Type 0
InsertionKeepsRules {X} form =
    (r : X) (xs : List X) → AreRecords form xs → MayInsert form xs r → AreRecords form (inserted form.order r xs)

abbrev pub RemovalKeepsRules : {X : Type 0} → Form X → Type 0
RemovalKeepsRules {X} form = (r : X) (xs : List X) → AreRecords form xs → AreRecords form (removed form.order r xs)

abbrev pub ReplacementKeepsRules : {X : Type 0} → Form X → Type 0
ReplacementKeepsRules {X} form =
    (old new : X) (xs : List X) → AreRecords form xs → MayReplace form xs old new → AreRecords form (replaced form.order old new xs)

abbrev pub InsertionGains : {X : Type 0} → Form X → Type 0
InsertionGains {X} form =
    (r : X) (xs : List X) → (let ys = inserted form.order r xs in Gains (Contains xs) r (Contains ys) × (length ys ≡ length xs + 1))

abbrev pub RemovalLoses : {X : Type 0} → Form X → Type 0
RemovalLoses {X} form =
    (r : X) (xs : List X) → AreRecords form xs → Contains xs r
    → (let ys = removed form.order r xs in Loses (Contains xs) r (Contains ys) × (length xs ≡ length ys + 1))

abbrev pub ReplacementSwaps : {X : Type 0} → Form X → Type 0
ReplacementSwaps {X} form =
    (old new : X) (xs : List X) → AreRecords form xs → Contains xs old
    → (let ys = replaced form.order old new xs in Swaps (Contains xs) old new (Contains ys) × (length ys ≡ length xs))
