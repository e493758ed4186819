-- What the check of the next item of a transaction comes to; of no public contract.
use Rattle.std.specs.Prelude.{◌≡◌, ◌⊎◌, ℕ, true, List, ◌∷◌, ◌++◌}
use Rattle.xr_items.specs.declared.item.Item.{Item}
use Rattle.xr_items.specs.declared.item.ItemFault.{ItemFault}
use Rattle.xr_items.specs.Items.{item_bytes}
use Rattle.xr_record.specs.declared.entry.Entry.{Entry}
use Rattle.xr_record.specs.declared.entry.Entry.TheVariants.{Trans, Unmount}
use Rattle.xr_record.specs.Stream.{are_items}
use Rattle.xr_commit.specs.BadItems.{IsBadItem, IsBadRegion, IsBadlyFollowed}
use Rattle.xr_commit.specs.GoodItems.{IsGoodItem}
use Rattle.xr_commit.specs.LoggedItems.{Logged, logged_regions}

-- the regions begin with this item, which is good
pub record IsNextGood (uuid : List ℕ) (last : ℕ) (regions : List (List ℕ)) (item : Item) : Type 0 where
  pub logged : Logged
  pub item_is : logged.item ≡ item
  pub good : IsGoodItem uuid last logged
  pub rest : List (List ℕ)
  pub regions_are : regions ≡ logged_regions logged ++ rest

-- or with a bad one, or a bad one follows the first
pub record IsNextBad (uuid : List ℕ) (last : ℕ) (regions : List (List ℕ)) (n : ℕ) (fault : ItemFault) : Type 0 where
  pub region : List ℕ
  pub more : List (List ℕ)
  pub broken :
      ((regions ≡ region ∷ more) × (n ≡ 0) × IsBadItem last region fault)
      ⊎ ((item : Item) × (regions ≡ item_bytes item ∷ region ∷ more) × (n ≡ 1) × IsBadlyFollowed uuid last item region fault)

-- the regions of a transaction part into items, by the numbers of regions that they name
abbrev pub HasWholeItems : Entry → Type 0
HasWholeItems (Trans tid regions) = are_items regions ≡ true
HasWholeItems Unmount = Unit {0}

abbrev pub IsBadEntry : List ℕ → ℕ → Entry → ℕ → ItemFault → Type 0
IsBadEntry uuid last (Trans tid regions) n fault = IsBadRegion uuid last regions n fault
IsBadEntry uuid last Unmount n fault = ⊥
