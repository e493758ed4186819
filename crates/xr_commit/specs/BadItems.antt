-- The first bad item of the live stream. Items are looked at last, in log order.
use Rattle.std.specs.Prelude.{◌≡◌, ◌≢◌, ◌⊎◌, ℕ, ◌+◌, ◌<◌, false, Some, List, ◌∷◌, ◌++◌, length}
use Rattle.std.specs.List.{flat_map}
use Rattle.xr_items.specs.declared.item.Item.{Item}
use Rattle.xr_items.specs.declared.item.ItemFault.{ItemFault}
use Rattle.xr_items.specs.declared.item.ItemFault.TheVariants.{ItemType, Size, Field}
use Rattle.xr_items.specs.declared.layout.TheConstants.{ID_PLACE}
use Rattle.xr_items.specs.FirstBroken.{RefusesItem}
use Rattle.xr_items.specs.Items.{following, item_bytes}
use Rattle.xr_items.specs.Valid.{IsItem}
use Rattle.xr_record.specs.declared.entry.Entry.{Entry}
use Rattle.xr_record.specs.declared.entry.Entry.TheVariants.{Trans}
use Rattle.xr_commit.specs.declared.fault.ScanFault.{ScanFault}
use Rattle.xr_commit.specs.declared.fault.ScanFault.TheVariants as of_scan
use Rattle.xr_commit.specs.Entries.{HasEntries}
use Rattle.xr_commit.specs.LoggedItems.{Logged, logged_regions}
use Rattle.xr_commit.specs.LogRecords.{LogRecord}
use Rattle.xr_commit.specs.GoodItems.{EntriesAreGood, IsCoreOf, IsFollowed, ItemsAreGood, Rises, last_of}
use Rattle.xr_commit.specs.RegionHomes.{home_of_region, regions_in}

-- a field of the region is named
abbrev pub NamesSomeField : ItemFault → Type 0
NamesSomeField fault = (place : ℕ) × (fault ≡ Field place)

-- it is none, and one of its fields is named
abbrev pub IsNoCoreOf : List ℕ → ℕ → List ℕ → ItemFault → Type 0
IsNoCoreOf uuid ino bytes fault = (IsCoreOf uuid ino bytes → ⊥) × NamesSomeField fault

-- The next region is bad: it is no item, or an intent whose id doesn't rise,
abbrev pub IsBadItem : ℕ → List ℕ → ItemFault → Type 0
IsBadItem last bytes fault =
    RefusesItem bytes fault ⊎ ((item : Item) × IsItem item × (bytes ≡ item_bytes item) × (Rises last item → ⊥) × (fault ≡ Field ID_PLACE))

-- or it follows an item and has another length than it has to have, or is no core of that file
abbrev pub IsBadFollower : List ℕ → Item → List ℕ → ItemFault → Type 0
IsBadFollower uuid item bytes fault =
    ((length bytes ≢ following item) × (fault ≡ Size 0))
    ⊎ ((length bytes ≡ following item) × (IsFollowed uuid item bytes → ⊥) × NamesSomeField fault)

-- an item that is right by itself, with a wrong region after it
pub record IsBadlyFollowed (uuid : List ℕ) (last : ℕ) (item : Item) (bytes : List ℕ) (fault : ItemFault) : Type 0 where
  pub valid : IsItem item
  pub rises : Rises last item
  pub follows : 0 < following item
  pub bad : IsBadFollower uuid item bytes fault

-- the first bad region of a transaction, counted from 0: good items stand before it, and perhaps the item that it follows
pub record IsBadRegion (uuid : List ℕ) (last : ℕ) (regions : List (List ℕ)) (n : ℕ) (fault : ItemFault) : Type 0 where
  pub logged : List Logged
  pub good : ItemsAreGood uuid last logged
  pub region : List ℕ
  pub more : List (List ℕ)
  pub broken :
      ((regions ≡ flat_map logged_regions logged ++ region ∷ more) × (n ≡ length (flat_map logged_regions logged)) × IsBadItem (last_of last logged) region fault)
      ⊎ ((item : Item) × (regions ≡ flat_map logged_regions logged ++ item_bytes item ∷ region ∷ more) × (n ≡ length (flat_map logged_regions logged) + 1)
      × IsBadlyFollowed uuid (last_of last logged) item region fault)

-- the refusal of a log by the rule that a region breaks, with a block
abbrev pub refusal_at : ItemFault → ℕ → ScanFault
refusal_at (ItemType place) block = of_scan.ItemType block
refusal_at (Size place) block = of_scan.Size block
refusal_at (Field place) block = of_scan.Field block

-- the first bad region of the stream, in the record in which it begins
pub record BreaksItems (uuid : List ℕ) (records : List LogRecord) (fault : ScanFault) : Type 0 where
  pub entries : List Entry
  pub said : HasEntries records entries
  pub before : List Entry
  pub tid : ℕ
  pub regions : List (List ℕ)
  pub after : List Entry
  pub entries_are : entries ≡ before ++ Trans tid regions ∷ after
  pub last : ℕ
  pub good : EntriesAreGood uuid 0 before last
  pub n : ℕ
  pub why : ItemFault
  pub bad : IsBadRegion uuid last regions n why
  pub block : ℕ
  pub home : home_of_region false records (regions_in before + n) ≡ Some block
  pub named : fault ≡ refusal_at why block
