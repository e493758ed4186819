-- A form gives its own numbers, and what follows from a record's test for the bytes that it is taken from.
use Rattle.std.proofs.Common.{◌≡◌, Bool, true, false, if◌then◌else◌, Some, None, refl}
use Rattle.xr_kinds.specs.Form.{Form, HasNumbers, if_valid}

-- a valid record is kept
pub valid_kept : {X : Type 0} (valid : X → Bool) (found x : X) → found ≡ x → valid x ≡ true → if_valid valid found ≡ Some x
valid_kept valid found x same good = rw (same, good) refl

chosen : {X : Type 0} (valid : X → Bool) (found x : X) (test : Bool) → valid found ≡ test → (if test then Some found else None) ≡ Some x
    → (valid x ≡ true) × (found ≡ x)
chosen valid found x true good is = let same : found ≡ x = cc in (rw (← same) good, same)
chosen valid found x false bad is = cc

-- what is kept is valid
pub kept_valid : {X : Type 0} (valid : X → Bool) (found x : X) → if_valid valid found ≡ Some x → (valid x ≡ true) × (found ≡ x)
kept_valid valid found x is = chosen valid found x (valid found) refl is

pub own_numbers : {X : Type 0} (form : Form X)
    → HasNumbers form form.magic form.long form.size form.low form.high form.leaf_max form.node_max form.most
own_numbers form = record {
  same_magic = refl;
  same_long = refl;
  same_size = refl;
  same_low = refl;
  same_high = refl;
  same_leaf_max = refl;
  same_node_max = refl;
  same_most = refl;
}
