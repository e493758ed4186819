-- The items of the live stream, each right by itself and after those before it.
use Rattle.std.specs.Prelude.{◌≡◌, ℕ, ◌<◌, List, [], ◌∷◌, length}
use Rattle.std.specs.List.{flat_map}
use Rattle.xr_headers.specs.declared.file_core.Core.{Core}
use Rattle.xr_headers.specs.Headers.{IsCore, core_bytes}
use Rattle.xr_items.specs.declared.item.Item.{Item}
use Rattle.xr_items.specs.declared.item.Item.TheVariants.{Buf, Inode, Begin, Done}
use Rattle.xr_items.specs.Items.{following}
use Rattle.xr_items.specs.Valid.{IsItem}
use Rattle.xr_record.specs.declared.entry.Entry.{Entry}
use Rattle.xr_record.specs.declared.entry.Entry.TheVariants.{Trans, Unmount}
use Rattle.xr_commit.specs.LoggedItems.{Logged, logged_regions}

-- the core of the file with an inode number, in the file system with this identifier
pub record IsCoreOf (uuid : List ℕ) (ino : ℕ) (bytes : List ℕ) : Type 0 where
  pub core : Core
  pub valid : IsCore core
  pub own : core.uuid ≡ uuid
  pub number : core.ino ≡ ino
  pub bytes_are : bytes ≡ core_bytes core

-- what follows an item is as long as it has to be, and a core is that of the file
abbrev pub IsFollowed : List ℕ → Item → List ℕ → Type 0
IsFollowed uuid (Inode ino) bytes = IsCoreOf uuid ino bytes
IsFollowed uuid (Buf sector) bytes = length bytes ≡ following (Buf sector)
IsFollowed uuid (Begin id work) bytes = bytes ≡ []
IsFollowed uuid (Done id kind) bytes = bytes ≡ []

-- the id of an intent is greater than those before it, of which this is the last and so the greatest
abbrev pub Rises : ℕ → Item → Type 0
Rises last (Begin id work) = last < id
Rises last item = Unit {0}

abbrev pub last_after : ℕ → Item → ℕ
last_after last (Begin id work) = id
last_after last item = last

pub record IsGoodItem (uuid : List ℕ) (last : ℕ) (l : Logged) : Type 0 where
  pub valid : IsItem l.item
  pub rises : Rises last l.item
  pub followed : IsFollowed uuid l.item l.bytes

-- good items, one after another, and the last id after them
abbrev pub ItemsAreGood : List ℕ → ℕ → List Logged → Type 0
ItemsAreGood uuid last [] = Unit {0}
ItemsAreGood uuid last (l ∷ ls) = IsGoodItem uuid last l × ItemsAreGood uuid (last_after last l.item) ls

abbrev pub last_of : ℕ → List Logged → ℕ
last_of last [] = last
last_of last (l ∷ ls) = last_of (last_after last l.item) ls

-- the regions of a transaction are good items, after which the last id is this one
pub record RegionsAreGood (uuid : List ℕ) (last : ℕ) (regions : List (List ℕ)) (last' : ℕ) : Type 0 where
  pub logged : List Logged
  pub good : ItemsAreGood uuid last logged
  pub regions_are : regions ≡ flat_map logged_regions logged
  pub last_is : last' ≡ last_of last logged

-- the same of all entries, one after another
abbrev pub EntriesAreGood : List ℕ → ℕ → List Entry → ℕ → Type 0
EntriesAreGood uuid last [] last' = last' ≡ last
EntriesAreGood uuid last (Unmount ∷ entries) last' = EntriesAreGood uuid last entries last'
EntriesAreGood uuid last (Trans tid regions ∷ entries) last' = (mid : ℕ) × RegionsAreGood uuid last regions mid × EntriesAreGood uuid mid entries last'
