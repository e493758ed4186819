-- Whether the trees of groups hold the records that are defined from the file maps, and which is the first that doesn't.
use Rattle.std.specs.Prelude.{◌≡◌, ◌↔◌, ℕ, ◌<◌, List, length, slice_index_or}
use Rattle.std.specs.List.{All, AllPairs, Contains}
use Rattle.xr_base.specs.declared.address.Addr.{Addr}
use Rattle.xr_base.specs.declared.address.Run.{Run}
use Rattle.xr_base.specs.declared.geometry.TheConstants.{GROUPS}
use Rattle.xr_check.specs.Differences.{DiffersAt}
use Rattle.xr_check.specs.declared.verdict.TreeName.{TreeName}
use Rattle.xr_check.specs.declared.verdict.TreeName.TheVariants.{Free, Owners, Shared, Sizes}
use Rattle.xr_check.specs.declared.verdict.Verdict.{Verdict}
use Rattle.xr_check.specs.declared.verdict.Verdict.TheVariants.{Differs, Sound}
use Rattle.xr_group.specs.Group.{GroupState}
use Rattle.xr_group.specs.Next.{IsCountedBefore, IsShorter, StartsBefore, counteds_now, frees_now, revs_now, sizes_now}
use Rattle.xr_maps.specs.FileMaps.{FileMaps}
use Rattle.xr_maps.specs.Records.{AreFreeRecords, AreReferenceRecords, AreReverseRecords, IsBefore}
use Rattle.xr_maps.specs.declared.records.Counted.{Counted}
use Rattle.xr_maps.specs.declared.records.Rev.{Rev}

-- the free records of a group in the order of their lengths, and then of their starts
pub record AreSizeRecords (maps : FileMaps) (group : ℕ) (runs : List Run) : Type 0 where
  pub by_start : List Run
  pub are_free : AreFreeRecords maps group by_start
  pub same : (run : Run) → Contains runs run ↔ Contains by_start run
  pub rising : AllPairs IsShorter runs

-- the tree holds just the records that are defined from the maps
abbrev pub IsTreeSound : FileMaps → GroupState → TreeName → Type 0
IsTreeSound maps g Owners = AreReverseRecords maps g.number (revs_now g)
IsTreeSound maps g Shared = AreReferenceRecords maps g.number (counteds_now g)
IsTreeSound maps g Free = AreFreeRecords maps g.number (frees_now g)
IsTreeSound maps g Sizes = AreSizeRecords maps g.number (sizes_now g)

-- where a list first differs from the one that is defined
pub record DiffersFrom {X : Type 0} (AreDefined : List X → Type 0) (Before : X → X → Type 0) (start : X → Addr) (tree : List X) (key : Addr) : Type 0 where
  pub defined : List X
  pub are_defined : AreDefined defined
  pub differs : DiffersAt Before start tree defined key

abbrev pub rev_start : Rev → Addr
rev_start r = r.run.start

abbrev pub counted_start : Counted → Addr
counted_start r = r.run.start

abbrev pub run_start : Run → Addr
run_start r = r.start

abbrev pub IsTreeDifference : FileMaps → GroupState → TreeName → Addr → Type 0
IsTreeDifference maps g Owners key = DiffersFrom (AreReverseRecords maps g.number) IsBefore rev_start (revs_now g) key
IsTreeDifference maps g Shared key = DiffersFrom (AreReferenceRecords maps g.number) IsCountedBefore counted_start (counteds_now g) key
IsTreeDifference maps g Free key = DiffersFrom (AreFreeRecords maps g.number) StartsBefore run_start (frees_now g) key
IsTreeDifference maps g Sizes key = DiffersFrom (AreSizeRecords maps g.number) IsShorter run_start (sizes_now g) key

-- the order in which the trees of a group are judged
abbrev pub turn_of : TreeName → ℕ
turn_of Owners = 0
turn_of Shared = 1
turn_of Free = 2
turn_of Sizes = 3

abbrev pub AreTreesSound : FileMaps → GroupState → Type 0
AreTreesSound maps g = (tree : TreeName) → IsTreeSound maps g tree

-- the first tree of a group that differs
pub record IsFirstTree (maps : FileMaps) (g : GroupState) (tree : TreeName) (key : Addr) : Type 0 where
  pub earlier : (other : TreeName) → turn_of other < turn_of tree → IsTreeSound maps g other
  pub differs : IsTreeDifference maps g tree key

-- the first group with a tree that differs
pub record IsFirstGroup (maps : FileMaps) (groups : List GroupState) (tree : TreeName) (number : ℕ) (key : Addr) : Type 0 where
  pub group : GroupState
  pub held : Contains groups group
  pub is_number : group.number ≡ number
  pub earlier : (g : GroupState) → Contains groups g → g.number < number → AreTreesSound maps g
  pub first : IsFirstTree maps group tree key

abbrev pub IsVerdict : FileMaps → List GroupState → Verdict → Type 0
IsVerdict maps groups Sound = All (AreTreesSound maps) groups
IsVerdict maps groups (Differs tree group key) = IsFirstGroup maps groups tree group.0 key

-- so many groups of an image, in the order of their numbers, and all
pub record AreFirstGroups (groups : List GroupState) (n : ℕ) : Type 0 where
  pub count : length groups ≡ n
  pub numbers : (k : ℕ) (d : GroupState) → k < n → (slice_index_or groups k d).number ≡ k

abbrev pub AreAllGroups : List GroupState → Type 0
AreAllGroups groups = AreFirstGroups groups GROUPS
