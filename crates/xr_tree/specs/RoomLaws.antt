-- The pools of groups and files always have room: their trees are small, and what they leave is free.
use Rattle.std.proofs.Common.{◌≤◌, ◌++◌, arith}
use Rattle.std.proofs.lemmas.List.{length-append}
use Rattle.xr_block.specs.Trees.{blocks_of_tree}
use Rattle.xr_kinds.specs.FreeRuns.{block_form, size_form}
use Rattle.xr_kinds.specs.Mapping.{mapping_form}
use Rattle.xr_kinds.specs.Reference.{reference_form}
use Rattle.xr_kinds.specs.Reverse.{reverse_form}
use Rattle.xr_pool.specs.Overlay.{free_count}
use Rattle.xr_pool.specs.RoomLaws.{leaves_room}
use Rattle.xr_tree.specs.Room.{FilesHaveRoom, GroupsHaveRoom, blocks_of_group_trees}
use Rattle.xr_tree.specs.SmallTreeLaws.{by_block_trees, by_size_trees, mapping_trees, reference_trees, reverse_trees}

pub groups_have_room : GroupsHaveRoom
groups_have_room b t all =
    let by_block = by_block_trees b t.by_block all.by_block in
    let by_size = by_size_trees b t.by_size all.by_size in
    let reverse = reverse_trees b t.reverse all.reverse in
    let reference = reference_trees b t.reference all.reference in
    let two = blocks_of_tree block_form b t.by_block ++ blocks_of_tree size_form b t.by_size in
    let three = two ++ blocks_of_tree reverse_form b t.reverse in
    let free : 73 ≤ free_count b =
    omega (
      arith,
      leaves_room b (blocks_of_group_trees b t) all.used,
      all.pool,
      length-append three (blocks_of_tree reference_form b t.reference),
      length-append two (blocks_of_tree reverse_form b t.reverse),
      length-append (blocks_of_tree block_form b t.by_block) (blocks_of_tree size_form b t.by_size),
      by_block.few_blocks,
      by_size.few_blocks,
      reverse.few_blocks,
      reference.few_blocks,
    ) in
    record {
      free = free;
      by_block = λ r. omega (arith, free, by_block.few_taken r);
      by_size = λ r. omega (arith, free, by_size.few_taken r);
      reverse = λ r. omega (arith, free, reverse.few_taken r);
      reference = λ r. omega (arith, free, reference.few_taken r);
    }

pub files_have_room : FilesHaveRoom
files_have_room b t all =
    let small = mapping_trees b t all.mapping in
    let free : 2 ≤ free_count b = omega (arith, leaves_room b (blocks_of_tree mapping_form b t) all.used, all.pool, small.few_blocks) in
    record { free = free; mapping = λ r. omega (arith, free, small.few_taken r) }
