-- The printed text of the records that are defined from file maps.
use Rattle.std.specs.Prelude.{◌≡◌, ℕ, ◌+◌, ◌<◌, List, [], ◌∷◌, ◌++◌, length, slice_index_or}
use Rattle.std.specs.List.{flat_map}
use Rattle.xr_base.specs.declared.address.Run.{Run}
use Rattle.xr_base.specs.declared.geometry.TheConstants.{FILES, GROUPS}
use Rattle.xr_maps.specs.declared.records.Extent.{Extent}
use Rattle.xr_maps.specs.declared.records.Rev.{Rev}
use Rattle.xr_maps.specs.declared.records.Counted.{Counted}
use Rattle.xr_maps.specs.FileMaps.{FileMaps}
use Rattle.xr_maps.specs.Records.{AreExtents, AreReverseRecords, AreReferenceRecords, AreFreeRecords}
use Rattle.xr_text.specs.RecordText.{extents_text, owners_text, shared_text, free_text}

-- a list for each number below n, of which P says what it is
pub record AreListsOf {X : Type 0} (P : ℕ → List X → Type 0) (n : ℕ) (lists : List (List X)) : Type 0 where
  pub count : length lists ≡ n
  pub each : (i : ℕ) → i < n → P i (slice_index_or lists i [])

-- the extents of file after file, from one on
abbrev pub files_text : ℕ → List (List Extent) → List ℕ
files_text file [] = []
files_text file (extents ∷ others) = extents_text file extents ++ files_text (file + 1) others

-- the extents of all files, and then the reverse, the reference and the free records of all groups
pub record IsTextOfMaps (maps : FileMaps) (text : List ℕ) : Type 0 where
  pub extents : List (List Extent)
  pub owners : List (List Rev)
  pub shared : List (List Counted)
  pub free : List (List Run)
  pub are_extents : AreListsOf (AreExtents maps) FILES extents
  pub are_owners : AreListsOf (AreReverseRecords maps) GROUPS owners
  pub are_shared : AreListsOf (AreReferenceRecords maps) GROUPS shared
  pub are_free : AreListsOf (AreFreeRecords maps) GROUPS free
  pub printed : text ≡ files_text 0 extents ++ flat_map owners_text owners ++ flat_map shared_text shared ++ flat_map free_text free

-- lists that P describes were printed at the end of a text
pub record AppendsLists {X : Type 0} (P : ℕ → List X → Type 0) (print : List (List X) → List ℕ) (n : ℕ) (old new : List ℕ) : Type 0 where
  pub lists : List (List X)
  pub are : AreListsOf P n lists
  pub printed : new ≡ old ++ print lists
