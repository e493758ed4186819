-- Of no public contract, and for tests alone.
-- A tree that has only records of a family, and what it takes to put one more into it, or one in the place of another.
use Rattle.std.specs.Prelude.{◌≡◌, ℕ, ◌≤◌, Bool, true, false, List, length}
use Rattle.std.specs.List.{All, Contains}
use Rattle.std.specs.Ordering.{is_eq}
use Rattle.std.specs.declared.cmp.Ordering.TheVariants.{Less}
use Rattle.xr_kinds.specs.Form.{Form}
use Rattle.xr_pool.specs.Overlay.{Blocks, free_count}
use Rattle.xr_block.specs.Tree.{IsTreeIn, tree_records}
use Rattle.xr_change.specs.SetRules.{KeepsPlace}

-- any two records of a family agree, if one comes before the other
abbrev pub IsFamily : {X : Type 0} → Form X → (X → Bool) → Type 0
IsFamily {X} form family = (x y : X) → family x ≡ true → family y ≡ true → form.order x y ≡ Less → form.agree x y ≡ true

-- at most `count` records are in the tree, and `spare` blocks are free at least
pub record IsGrown {X : Type 0} (form : Form X) (family : X → Bool) (b : Blocks) (root level count spare : ℕ) : Type 0 where
  pub tree : IsTreeIn form b root level
  pub members : All (λ (x : X). family x ≡ true) (tree_records form b root level)
  pub few : length (tree_records form b root level) ≤ count
  pub room : spare ≤ free_count b

-- a record that may be put in
pub record MayCome {X : Type 0} (form : Form X) (family : X → Bool) (records : List X) (r : X) : Type 0 where
  pub valid : form.is_valid r ≡ true
  pub member : family r ≡ true
  pub other : All (λ (x : X). is_eq (form.order x r) ≡ false) records

-- a record, and another that would have its place in the order
pub record IsBeside {X : Type 0} (form : Form X) (records : List X) (old new : X) : Type 0 where
  pub held : Contains records old
  pub place : KeepsPlace form.order records old new
