-- The pool of a group has room for each change of one of its trees.
use Rattle.std.proofs.Common.{ℕ, zero, suc, ◌≤◌, List, ◌++◌, arith}
use Rattle.std.proofs.lemmas.List.Elements.{Contains-append_left, Contains-append_right}
use Rattle.std.specs.List.{Contains}
use Rattle.xr_block.specs.Trees.{blocks_of_tree}
use Rattle.xr_group.specs.Trees.{HasGroupTrees, parts_of}
use Rattle.xr_group.specs.declared.trees.Trees.{Trees}
use Rattle.xr_kinds.specs.Reverse.{reverse_form}
use Rattle.xr_pool.specs.Overlay.{Blocks, free_count}
use Rattle.xr_pool.specs.Room.{HoldAllUsed}
use Rattle.xr_refcount.specs.Refcount.{reference_blocks}
use Rattle.xr_space.specs.Space.{space_blocks}
use Rattle.xr_tree.specs.Room.{GroupRoots, blocks_of_group_trees}
use Rattle.xr_tree.specs.RoomLaws.{groups_have_room}

abbrev pub roots_of : Trees → GroupRoots
roots_of t = record { by_block = t.space.by_block; by_size = t.space.by_size; reverse = t.rmap.tree; reference = t.counts.tree }

in_all : (b : Blocks) (t : Trees) (i n : ℕ) → Contains (parts_of b t i) n → Contains (blocks_of_group_trees b (roots_of t)) n
in_all b t zero n within =
    let three : List ℕ = space_blocks b t.space ++ blocks_of_tree reverse_form b t.rmap.tree in
    Contains-append_left three (reference_blocks b t.counts) n
    (Contains-append_left (space_blocks b t.space) (blocks_of_tree reverse_form b t.rmap.tree) n within)
in_all b t (suc zero) n within =
    let three : List ℕ = space_blocks b t.space ++ blocks_of_tree reverse_form b t.rmap.tree in
    Contains-append_left three (reference_blocks b t.counts) n
    (Contains-append_right (space_blocks b t.space) (blocks_of_tree reverse_form b t.rmap.tree) n within)
in_all b t (suc (suc zero)) n within =
    let three : List ℕ = space_blocks b t.space ++ blocks_of_tree reverse_form b t.rmap.tree in
    Contains-append_right three (reference_blocks b t.counts) n within
in_all b t (suc (suc (suc i))) n within = absurd (omega (arith, within.1))

pub all_used : (b : Blocks) (t : Trees) → HasGroupTrees b t → HoldAllUsed b (blocks_of_group_trees b (roots_of t))
all_used b t all n from below taken = let found = all.parted.every n from below taken in in_all b t found.0 n found.1

pub group_room : (b : Blocks) (t : Trees) → HasGroupTrees b t → 73 ≤ free_count b
group_room b t all =
    let room = groups_have_room b (roots_of t) (record {
      by_block = all.space.blocks;
      by_size = all.space.sizes;
      reverse = all.rmap;
      reference = all.counts;
      pool = all.pool;
      used = all_used b t all;
    }) in
    room.free
