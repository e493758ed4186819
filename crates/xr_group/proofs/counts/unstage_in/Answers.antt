-- Counts are changed, and the header follows.
use Rattle.std.proofs.Common.{List, arith, subst}
use Rattle.xr_group.proofs.CallLemmas.{counts_changed, references_stay, with_head}
use Rattle.xr_group.proofs.PartLemmas.{old_head}
use Rattle.xr_group.proofs.RoomLemmas.{group_room}
use Rattle.xr_group.specs.Trees.{counts_part}
use Rattle.xr_kinds.specs.declared.reference.Reference.{Reference}
use Rattle.xr_refcount.specs.Calls.{UnstagesRun}
use Rattle.xr_refcount.specs.Refcount.{reference_records}
use Rattle.xr_group.proofs.counts.unstage_in.Goals as goal

pub unstage-requires-clause-room : goal.unstage-requires-clause-room
unstage-requires-clause-room c = omega (arith, group_room _ _ c.requires.group.trees)

pub write_head-requires : goal.write_head-requires
write_head-requires c =
    let step = counts_changed _ _ _ c.unstage.new.self 2 14 c.unstage.ensures.step in
    rw c.head_of-before.ensures.is (record { group = old_head counts_part 14 _ _ _ _ c.requires.group step c.has_blocks.ensures.image })

pub returns-clause-change : goal.returns-clause-change
returns-clause-change c =
    with_head counts_part 14 _ _ _ _ c.requires.group (counts_changed _ _ _ c.unstage.new.self 2 14 c.unstage.ensures.step) _ c.write_head.ensures.written

pub returns-clause-unstaged : goal.returns-clause-unstaged
returns-clause-unstaged c =
    subst (λ (xs : List Reference). UnstagesRun (reference_records c.args.over.now c.args.trees.now.counts) c.args.run xs)
    (references_stay c.unstage.new.over c.write_head.new.over (record c.args.trees.now { counts = c.unstage.new.self }) c.write_head.ensures.written)
    c.unstage.ensures.unstaged
