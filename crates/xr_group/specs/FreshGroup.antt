-- The blocks of a fresh image are groups whose data blocks are all free.
use Rattle.std.specs.Prelude.{◌≡◌, ℕ, ◌+◌, ◌<◌, ◌%◌, ◌&&◌, false, nat_le, List, [], length, slice_index_or}
use Rattle.xr_base.specs.declared.geometry.TheConstants.{FIRST_DATA_BLOCK, GROUPS, GROUP_BLOCKS, UUID_BYTES}
use Rattle.xr_group.specs.Group.{GroupState, IsGroup, first_of_group}
use Rattle.xr_group.specs.Sets.{IsPaired, has_free, has_pair, has_staged, is_in_group, owner_count_in}
use Rattle.xr_headers.specs.FreshImage.{fresh_block_of}
use Rattle.xr_pool.specs.Overlay.{AreWhole}

-- some blocks as a group that nothing was changed in
abbrev pub group_at_rest : ℕ → List ℕ → List (List ℕ) → GroupState
group_at_rest number uuid blocks = record { number = number; uuid = uuid; kept = blocks; blocks = blocks; changed = [] }

-- some blocks are those of a group in the image that formatting makes
pub record AreFreshGroupBlocks (uuid : List ℕ) (cycle number : ℕ) (blocks : List (List ℕ)) : Type 0 where
  pub whole : AreWhole blocks
  pub long : length blocks ≡ FIRST_DATA_BLOCK
  pub each : (k : ℕ) → k < FIRST_DATA_BLOCK → slice_index_or blocks k [] ≡ fresh_block_of uuid cycle (first_of_group number + k)

-- each data block of the group is free, none is owned or staged, and each counts 1
pub record HasAllFree (g : GroupState) : Type 0 where
  pub free : (a : ℕ) → has_free g a ≡ (is_in_group g a && nat_le FIRST_DATA_BLOCK (a % GROUP_BLOCKS))
  pub unowned : (w o a : ℕ) → has_pair g w o a ≡ false
  pub counts : (a : ℕ) → owner_count_in g a ≡ 1
  pub unstaged : (a : ℕ) → has_staged g a ≡ false
  pub paired : IsPaired g

abbrev pub FreshGroupsAreFree : Type 0
FreshGroupsAreFree =
    (uuid : List ℕ) (cycle number : ℕ) (blocks : List (List ℕ)) → length uuid ≡ UUID_BYTES → number < GROUPS
    → AreFreshGroupBlocks uuid cycle number blocks → IsGroup number uuid blocks × HasAllFree (group_at_rest number uuid blocks)
