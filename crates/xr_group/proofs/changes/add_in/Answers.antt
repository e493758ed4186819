-- Owners are changed, and the header follows.
use Rattle.std.proofs.Common.{arith}
use Rattle.xr_group.proofs.CallLemmas.{owners_changed, pairs_gained, with_head}
use Rattle.xr_group.proofs.PartLemmas.{old_head}
use Rattle.xr_group.proofs.RoomLemmas.{group_room}
use Rattle.xr_group.specs.Trees.{owners_part}
use Rattle.xr_group.proofs.changes.add_in.Goals as goal

pub add-requires-clause-room : goal.add-requires-clause-room
add-requires-clause-room c = omega (arith, group_room _ _ c.requires.group.trees)

pub write_head-requires : goal.write_head-requires
write_head-requires c =
    let step = owners_changed _ _ _ c.add.new.self 3 20 c.add.ensures.step in
    rw c.head_of-before.ensures.is (record { group = old_head owners_part 20 _ _ _ _ c.requires.group step c.has_blocks.ensures.image })

pub returns-clause-change : goal.returns-clause-change
returns-clause-change c =
    with_head owners_part 20 _ _ _ _ c.requires.group (owners_changed _ _ _ c.add.new.self 3 20 c.add.ensures.step) _ c.write_head.ensures.written

pub returns-clause-added : goal.returns-clause-added
returns-clause-added c = pairs_gained _ c.args.over.now _ c.add.new.over c.write_head.new.over (record c.args.trees.now { rmap = c.add.new.self }) c.write_head.ensures.written c.add.ensures.added
