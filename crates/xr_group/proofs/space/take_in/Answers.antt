-- Free runs are changed, and the header follows.
use Rattle.std.proofs.Common.{ap, arith, sym, ◌∙◌}
use Rattle.std.proofs.lemmas.Option.{IfSome_then}
use Rattle.xr_group.proofs.CallLemmas.{free_changed, free_stays, paired_stays, with_head}
use Rattle.xr_group.proofs.PartLemmas.{old_head}
use Rattle.xr_group.proofs.RoomLemmas.{group_room}
use Rattle.xr_group.specs.Parts.{head_of}
use Rattle.xr_group.specs.Trees.{free_part}
use Rattle.xr_kinds.specs.Spans.{IsIn}
use Rattle.xr_pool.specs.Overlay.{Blocks}
use Rattle.xr_space.specs.Space.{IsFreeBlock}
use Rattle.xr_space.specs.declared.space.Space.{Space}
use Rattle.xr_group.proofs.space.take_in.Goals as goal

pub take_first-run-requires-clause-room : goal.take_first-run-requires-clause-room
take_first-run-requires-clause-room c = omega (arith, group_room _ _ c.requires.group.trees)

pub write_head-requires : goal.write_head-requires
write_head-requires c =
    let made = c.take_first-run.ensures in
    let step = free_changed _ _ _ c.take_first-run.new.self 21 made.space made.frame made.changed in
    rw c.head_of-before.ensures.is (record { group = old_head free_part 21 _ _ _ _ c.requires.group step c.has_blocks.ensures.image })

pub returns-clause-change : goal.returns-clause-change
returns-clause-change c =
    let made = c.take_first-run.ensures in
    with_head free_part 21 _ _ _ _ c.requires.group (free_changed _ _ _ c.take_first-run.new.self 21 made.space made.frame made.changed) _ c.write_head.ensures.written

pub returns-clause-paired : goal.returns-clause-paired
returns-clause-paired c =
    paired_stays c.take_first-run.new.over c.write_head.new.over (record c.args.trees.now { space = c.take_first-run.new.self }) c.write_head.ensures.written c.take_first-run.ensures.paired

pub returns-clause-same : goal.returns-clause-same
returns-clause-same c none =
    let blocks = c.take_first-run.ensures.same_blocks none in
    let trees = c.take_first-run.ensures.same_trees none in
    let head = ap (λ (b : Blocks). head_of b (record c.args.trees.now { space = c.take_first-run.new.self })) blocks
    ∙ ap (λ (x : Space). head_of c.args.over.now (record c.args.trees.now { space = x })) trees in
    c.write_head.ensures.same (head ∙ sym c.head_of-before.ensures.is) ∙ blocks

pub returns-clause-taken : goal.returns-clause-taken
returns-clause-taken c =
    IfSome_then c.take_first-run.result c.take_first-run.ensures.taken
    (λ run told. free_stays c.take_first-run.new.over c.write_head.new.over (record c.args.trees.now { space = c.take_first-run.new.self }) c.write_head.ensures.written
    (λ n. IsFreeBlock c.args.over.now c.args.trees.now.space n × ¬ (IsIn run n)) told)
