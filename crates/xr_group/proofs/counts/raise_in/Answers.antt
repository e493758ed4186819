-- Counts are changed, and the header follows.
use Rattle.std.proofs.Common.{List, arith, subst}
use Rattle.xr_group.proofs.CallLemmas.{counts_changed, references_stay, with_head}
use Rattle.xr_group.proofs.PartLemmas.{old_head}
use Rattle.xr_group.proofs.RoomLemmas.{group_room}
use Rattle.xr_group.specs.Trees.{counts_part}
use Rattle.xr_kinds.specs.declared.reference.Reference.{Reference}
use Rattle.xr_refcount.specs.Calls.{Raises}
use Rattle.xr_refcount.specs.Refcount.{reference_records}
use Rattle.xr_group.proofs.counts.raise_in.Goals as goal

pub raise_run-requires-clause-room : goal.raise_run-requires-clause-room
raise_run-requires-clause-room c = omega (arith, group_room _ _ c.requires.group.trees)

pub write_head-requires : goal.write_head-requires
write_head-requires c =
    let step = counts_changed _ _ _ c.raise_run.new.self 4 21 c.raise_run.ensures.step in
    rw c.head_of-before.ensures.is (record { group = old_head counts_part 21 _ _ _ _ c.requires.group step c.has_blocks.ensures.image })

pub returns-clause-change : goal.returns-clause-change
returns-clause-change c =
    with_head counts_part 21 _ _ _ _ c.requires.group (counts_changed _ _ _ c.raise_run.new.self 4 21 c.raise_run.ensures.step) _ c.write_head.ensures.written

pub returns-clause-raised : goal.returns-clause-raised
returns-clause-raised c =
    subst (λ (xs : List Reference). Raises (reference_records c.args.over.now c.args.trees.now.counts) c.args.run xs)
    (references_stay c.raise_run.new.over c.write_head.new.over (record c.args.trees.now { counts = c.raise_run.new.self }) c.write_head.ensures.written)
    c.raise_run.ensures.raised
