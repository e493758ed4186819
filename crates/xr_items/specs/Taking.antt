-- How the fields of a region are tested one after the other, and what is known of those that were read; of no public contract.
use Rattle.std.specs.Prelude.{◌≡◌, ℕ, Bool, List, [], ◌∷◌, IsTrue, ⊤}
use Rattle.xr_base.specs.declared.address.Run.{Run}
use Rattle.xr_items.specs.declared.fields.Field.TheVariants.{Word, Long}
use Rattle.xr_items.specs.declared.item.Item.{Item}
use Rattle.xr_items.specs.declared.item.ItemKind.{ItemKind}
use Rattle.xr_items.specs.FirstBroken.{NamesRule}
use Rattle.xr_items.specs.Items.{HoldsBody, item_body, kind_of}
use Rattle.xr_items.specs.Valid.{IsItem}

-- all tests hold, or a place is that of the first that doesn't
abbrev pub AllKept : List (ℕ × Bool) → Type 0
AllKept [] = ⊤
AllKept (row ∷ rows) = IsTrue row.1 × AllKept rows

abbrev pub IsFirstBroken : List (ℕ × Bool) → ℕ → Type 0
IsFirstBroken [] place = ⊥
IsFirstBroken (row ∷ rows) place = NamesRule row.0 (IsTrue row.1) (IsFirstBroken rows) place

-- a valid item of this kind whose fields stand there after type and regions
pub record IsBodyOf (kind : ItemKind) (bytes : List ℕ) (item : Item) : Type 0 where
  pub of_kind : kind_of item ≡ kind
  pub valid : IsItem item
  pub fields : HoldsBody (item_body item) bytes

-- the fields of an item that names a run alone, up to its flags
abbrev pub HoldsRun : ℕ → Run → List ℕ → Type 0
HoldsRun id run bytes = HoldsBody (Word 1 ∷ Long id ∷ Long run.start.0 ∷ Word run.len ∷ []) bytes
