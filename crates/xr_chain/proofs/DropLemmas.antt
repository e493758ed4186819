-- A file or a group without changes comes back where what one call changed in it is dropped.
use Rattle.std.proofs.Common.{◌≡◌, ℕ, []}
use Rattle.xr_base.specs.declared.geometry.TheConstants.{FILE_BLOCKS, FIRST_DATA_BLOCK}
use Rattle.xr_bmap.specs.File.{AreFileStates, ChangesFile, FileState}
use Rattle.xr_chain.proofs.ChangedLemmas.{dropped_back, none_changed}
use Rattle.xr_group.specs.Group.{AreGroups, ChangesGroup, GroupState}
use Rattle.xr_open.specs.PoolState.{dropped_to_kept}

module _ (old new : GroupState) (are : AreGroups old) (none : old.changed ≡ []) where
  same_group : old.kept ≡ old.blocks
  same_group = none_changed old FIRST_DATA_BLOCK are.kept_group.trees.pool are.group.trees.pool none are.others

  pub group_back : (k writes : ℕ) → ChangesGroup k writes old new → dropped_to_kept new ≡ old
  group_back k writes change = dropped_back old new change.number change.uuid change.kept none same_group

module _ (old new : FileState) (are : AreFileStates old) (none : old.changed ≡ []) where
  same_file : old.kept ≡ old.blocks
  same_file = none_changed old FILE_BLOCKS are.kept_file.tree.pool are.file.tree.pool none are.others

  pub file_back : ChangesFile old new → dropped_to_kept new ≡ old
  file_back change = dropped_back old new change.number change.uuid change.kept none same_file
