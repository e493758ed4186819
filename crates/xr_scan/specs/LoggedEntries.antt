-- The items that the entries of a stream log, each with the bytes that follow it.
use Rattle.std.specs.Prelude.{◌≡◌, ℕ, List, [], ◌∷◌, ◌++◌, length, map}
use Rattle.std.specs.List.{AllByRecursion, flat_map}
use Rattle.xr_items.specs.declared.item.Item.{Item}
use Rattle.xr_items.specs.Items.{following}
use Rattle.xr_items.specs.Valid.{IsItem}
use Rattle.xr_record.specs.declared.entry.Entry.{Entry}
use Rattle.xr_record.specs.declared.entry.Entry.TheVariants.{Trans, Unmount}
use Rattle.xr_commit.specs.LoggedItems.{Logged, logged_regions}

-- a valid item, with as many bytes as follow such an item
pub record IsWholeItem (l : Logged) : Type 0 where
  pub valid : IsItem l.item
  pub long : length l.bytes ≡ following l.item

-- a transaction of these regions logs these items
pub record Logs (regions : List (List ℕ)) (logged : List Logged) : Type 0 where
  pub whole : AllByRecursion IsWholeItem logged
  pub regions_are : regions ≡ flat_map logged_regions logged

-- the entries log these items, one transaction after another
abbrev pub LogAll : List Entry → List Logged → Type 0
LogAll [] logged = logged ≡ []
LogAll (Unmount ∷ entries) logged = LogAll entries logged
LogAll (Trans tid regions ∷ entries) logged =
    (first : List Logged) × (later : List Logged) × (logged ≡ first ++ later) × Logs regions first × LogAll entries later

abbrev pub logged_items : List Logged → List Item
logged_items logged = map (λ (l : Logged). l.item) logged
