-- A group by its blocks: whether some blocks are one, what they hold, and what its calls leave.
use Rattle.std.specs.Prelude.{◌≡◌, ◌≢◌, ◌⊎◌, ℕ, ◌+◌, ◌*◌, ◌<◌, ◌≤◌, true, List, [], length, slice_index, slice_index_or}
use Rattle.std.specs.List.{All, AllPairs, Contains}
use Rattle.xr_base.specs.Address.{IsGoodRun, group_number}
use Rattle.xr_base.specs.declared.address.GroupNo.{GroupNo}
use Rattle.xr_base.specs.declared.address.Run.{Run}
use Rattle.xr_base.specs.declared.geometry.TheConstants.{FIRST_DATA_BLOCK, FIRST_GROUP_BLOCK, GROUP_BLOCKS, UUID_BYTES}
use Rattle.xr_block.specs.declared.root.Root.{Root}
use Rattle.xr_group.specs.Trees.{AreSameElsewhere, GroupRecords, HasGroupTrees, parts_of, records_of_trees}
use Rattle.xr_group.specs.declared.trees.Trees.{Trees}
use Rattle.xr_headers.specs.Headers.{IsGroupHead, group_block, group_in}
use Rattle.xr_headers.specs.declared.group_head.GroupHead.{GroupHead}
use Rattle.xr_open.specs.PoolState.{PoolState, pool_with}
use Rattle.xr_pool.specs.Overlay.{AreWhole, Blocks, is_free}

-- the image block of a group's header
abbrev pub first_of_group : ℕ → ℕ
first_of_group number = FIRST_GROUP_BLOCK + GROUP_BLOCKS * number

abbrev pub group_no : ℕ → GroupNo
group_no number = record { 0 = number }

-- the header that the first block holds, and the trees whose roots it names
abbrev pub head_of_blocks : ℕ → List ℕ → List (List ℕ) → GroupHead
head_of_blocks number uuid blocks = group_in (slice_index_or blocks 0 []) (group_no number) uuid

abbrev pub root_at : GroupHead → ℕ → Root
root_at head i = record { block = slice_index head.roots i; level = slice_index head.levels i }

abbrev pub trees_of_head : GroupHead → Trees
trees_of_head head = record {
  space = record { by_block = root_at head 0; by_size = root_at head 1 };
  rmap = record { tree = root_at head 2 };
  counts = record { tree = root_at head 3 };
}

abbrev pub trees_of_blocks : ℕ → List ℕ → List (List ℕ) → Trees
trees_of_blocks number uuid blocks = trees_of_head (head_of_blocks number uuid blocks)

-- the blocks as a pool, with the free ones that the header names
abbrev pub group_pool : ℕ → List ℕ → List (List ℕ) → Blocks
group_pool number uuid blocks = pool_with blocks (head_of_blocks number uuid blocks).free (first_of_group number) number uuid

-- the first block is a header of this group
pub record HasGroupHead (number : ℕ) (uuid : List ℕ) (blocks : List (List ℕ)) : Type 0 where
  pub valid : IsGroupHead (head_of_blocks number uuid blocks)
  pub head : slice_index_or blocks 0 [] ≡ group_block (head_of_blocks number uuid blocks)

-- the blocks are a group: the header names the roots of four trees that share no block, and just the blocks of the pool that no
-- tree has are free
pub record IsGroup (number : ℕ) (uuid : List ℕ) (blocks : List (List ℕ)) : Type 0 where
  pub whole : AreWhole blocks
  pub head : HasGroupHead number uuid blocks
  pub trees : HasGroupTrees (group_pool number uuid blocks) (trees_of_blocks number uuid blocks)

-- a group with its committed blocks, its blocks now, and which of them may differ
abbrev pub GroupState : Type 0
GroupState = PoolState

-- what holds of every group
pub record AreGroups (g : GroupState) : Type 0 where
  pub kept_group : IsGroup g.number g.uuid g.kept
  pub group : IsGroup g.number g.uuid g.blocks
  pub others : (n : ℕ) → ¬ (Contains g.changed n) → slice_index_or g.kept n [] ≡ slice_index_or g.blocks n []
  pub rising : AllPairs (λ (m n : ℕ). m < n) g.changed
  pub below : All (λ (n : ℕ). n < FIRST_DATA_BLOCK) g.changed
  pub identified : length g.uuid ≡ UUID_BYTES

-- what some blocks hold as a group, and what a group holds now
abbrev pub records_of_blocks : ℕ → List ℕ → List (List ℕ) → GroupRecords
records_of_blocks number uuid blocks = records_of_trees (group_pool number uuid blocks) (trees_of_blocks number uuid blocks)

abbrev pub records_now : GroupState → GroupRecords
records_now g = records_of_blocks g.number g.uuid g.blocks

-- the blocks of a part of the pool now, and whether a block is free
abbrev pub part_now : GroupState → ℕ → List ℕ
part_now g k = parts_of (group_pool g.number g.uuid g.blocks) (trees_of_blocks g.number g.uuid g.blocks) k

abbrev pub IsSpareNow : GroupState → ℕ → Type 0
IsSpareNow g n = is_free (group_pool g.number g.uuid g.blocks) n ≡ true

-- a change of one part: what is in the others stays, and at most so many blocks more are marked. Each of these was marked, or it is
-- the header, or it was the part's own, or free. The header is marked only where it was, or where its bytes are others now.
pub record ChangesGroup (k writes : ℕ) (old new : GroupState) : Type 0 where
  pub number : new.number ≡ old.number
  pub uuid : new.uuid ≡ old.uuid
  pub kept : new.kept ≡ old.kept
  pub others : AreSameElsewhere k (records_now old) (records_now new)
  pub few : length new.changed ≤ length old.changed + writes
  pub marked : (n : ℕ) → Contains new.changed n → Contains old.changed n ⊎ (n ≡ 0) ⊎ Contains (part_now old k) n ⊎ IsSpareNow old n
  pub head : Contains new.changed 0 → Contains old.changed 0 ⊎ (slice_index_or new.blocks 0 [] ≢ slice_index_or old.blocks 0 [])

-- a run of data blocks of the group
pub record IsRunOf (g : GroupState) (run : Run) : Type 0 where
  pub good : IsGoodRun run
  pub here : group_number run.start ≡ g.number
