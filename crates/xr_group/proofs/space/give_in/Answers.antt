-- Free runs are changed, and the header follows.
use Rattle.std.proofs.Common.{◌⊎◌, arith}
use Rattle.xr_group.proofs.CallLemmas.{free_changed, free_stays, paired_stays, with_head}
use Rattle.xr_group.proofs.PartLemmas.{old_head}
use Rattle.xr_group.proofs.RoomLemmas.{group_room}
use Rattle.xr_group.specs.Trees.{free_part}
use Rattle.xr_kinds.specs.Spans.{IsIn}
use Rattle.xr_space.specs.Space.{IsFreeBlock}
use Rattle.xr_group.proofs.space.give_in.Goals as goal

pub give-requires-clause-room : goal.give-requires-clause-room
give-requires-clause-room c = omega (arith, group_room _ _ c.requires.group.trees)

pub write_head-requires : goal.write_head-requires
write_head-requires c =
    let made = c.give.ensures in
    let step = free_changed _ _ _ c.give.new.self 35 made.space made.frame made.changed in
    rw c.head_of-before.ensures.is (record { group = old_head free_part 35 _ _ _ _ c.requires.group step c.has_blocks.ensures.image })

pub returns-clause-change : goal.returns-clause-change
returns-clause-change c =
    let made = c.give.ensures in
    with_head free_part 35 _ _ _ _ c.requires.group (free_changed _ _ _ c.give.new.self 35 made.space made.frame made.changed) _ c.write_head.ensures.written

pub returns-clause-paired : goal.returns-clause-paired
returns-clause-paired c =
    paired_stays c.give.new.over c.write_head.new.over (record c.args.trees.now { space = c.give.new.self }) c.write_head.ensures.written c.give.ensures.paired

pub returns-clause-given : goal.returns-clause-given
returns-clause-given c =
    free_stays c.give.new.over c.write_head.new.over (record c.args.trees.now { space = c.give.new.self }) c.write_head.ensures.written
    (λ n. IsFreeBlock c.args.over.now c.args.trees.now.space n ⊎ IsIn c.args.run n) c.give.ensures.given
