-- The records of a group's trees as lists, where what the group holds is what the file maps say.
use Rattle.std.specs.Prelude.{◌≡◌, ◌≢◌, ◌↔◌, ℕ, ◌+◌, ◌-◌, ◌/◌, ◌<◌, ◌≤◌, ◌==◌, true, false, not, nat_lt, if◌then◌else◌, List, filter}
use Rattle.xr_base.specs.Address.{IsData, address_of}
use Rattle.xr_base.specs.declared.geometry.TheConstants.{FILES, FIRST_INODE, GROUP_BLOCKS, OWN_COW}
use Rattle.xr_group.specs.Group.{GroupState, IsGroup}
use Rattle.xr_group.specs.Next.{counteds_now, frees_now, revs_now}
use Rattle.xr_group.specs.Sets.{has_free, has_pair, is_in_group, owner_count_in}
use Rattle.xr_maps.specs.FileMaps.{AreGoodMaps, FileMaps, IsOwner}
use Rattle.xr_maps.specs.Records.{AreFreeRecords, AreReferenceRecords, AreReverseRecords, IsCounted, owner_count}
use Rattle.xr_maps.specs.declared.records.Counted.{Counted}
use Rattle.xr_maps.specs.declared.records.Rev.{Rev}

-- a pair is that of a file with a block that it maps at the offset
pub record IsFilePair (maps : FileMaps) (w o a : ℕ) : Type 0 where
  pub first_inode : FIRST_INODE ≤ w
  pub last_inode : w < FIRST_INODE + FILES
  pub is_owner : IsOwner maps (address_of a) (w - FIRST_INODE) o

-- each pair of the group with a file is one of the maps, and each of the maps in the group is there
pub record ArePairsOf (maps : FileMaps) (g : GroupState) : Type 0 where
  pub each : (w o a : ℕ) → has_pair g w o a ≡ true → w ≢ OWN_COW → IsFilePair maps w o a
  pub every : (file o a : ℕ) → is_in_group g a ≡ true → IsOwner maps (address_of a) file o → has_pair g (FIRST_INODE + file) o a ≡ true

-- the records of owners without those of staged blocks, and that there are none of these
abbrev pub file_revs_now : GroupState → List Rev
file_revs_now g = filter (λ (r : Rev). not (r.owner == OWN_COW)) (revs_now g)

abbrev pub HasNoStagedPair : GroupState → Type 0
HasNoStagedPair g = (o a : ℕ) → has_pair g OWN_COW o a ≡ false

-- then the records of files are those that are defined from the maps, and all records are where no block is staged
abbrev pub OwnersFollowFromMaps : Type 0
OwnersFollowFromMaps =
    (maps : FileMaps) (g : GroupState) → AreGoodMaps maps → IsGroup g.number g.uuid g.blocks → ArePairsOf maps g
    → AreReverseRecords maps g.number (file_revs_now g) × (HasNoStagedPair g → file_revs_now g ≡ revs_now g)

-- a block is free where it is a data block of the group that no file maps
abbrev pub AreFreeOf : FileMaps → GroupState → Type 0
AreFreeOf maps g = (a : ℕ) → has_free g a ≡ true ↔ IsCounted maps g.number (λ n. n ≡ 0) a

-- then the free runs are those that are defined from the maps
abbrev pub FreeFollowFromMaps : Type 0
FreeFollowFromMaps =
    (maps : FileMaps) (g : GroupState) → IsGroup g.number g.uuid g.blocks → AreFreeOf maps g → AreFreeRecords maps g.number (frees_now g)

-- a data block counts as many owners as the maps say, and 1 where these are fewer than two
abbrev pub AreCountsOf : FileMaps → GroupState → Type 0
AreCountsOf maps g = (a : ℕ) → IsData (address_of a) → a / GROUP_BLOCKS ≡ g.number
    → owner_count_in g a ≡ (if nat_lt (owner_count maps (address_of a)) 2 then 1 else owner_count maps (address_of a))

-- the records of counts without those of staged blocks
abbrev pub shared_now : GroupState → List Counted
shared_now g = filter (λ (c : Counted). not c.staged) (counteds_now g)

-- then these are the records that are defined from the maps
abbrev pub CountsFollowFromMaps : Type 0
CountsFollowFromMaps =
    (maps : FileMaps) (g : GroupState) → IsGroup g.number g.uuid g.blocks → AreCountsOf maps g → AreReferenceRecords maps g.number (shared_now g)
