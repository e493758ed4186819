-- Counts are changed, and the header follows.
use Rattle.std.proofs.Common.{List, ap, arith, subst, sym, ◌∙◌}
use Rattle.xr_group.proofs.CallLemmas.{counts_changed, references_stay, with_head}
use Rattle.xr_group.proofs.PartLemmas.{old_head}
use Rattle.xr_group.proofs.RoomLemmas.{group_room}
use Rattle.xr_group.specs.Parts.{head_of}
use Rattle.xr_group.specs.Trees.{counts_part}
use Rattle.xr_kinds.specs.declared.reference.Reference.{Reference}
use Rattle.xr_pool.specs.Overlay.{Blocks}
use Rattle.xr_refcount.specs.Calls.{Lowers}
use Rattle.xr_refcount.specs.Refcount.{reference_records}
use Rattle.xr_refcount.specs.declared.refcount.Refcount.{Refcount}
use Rattle.xr_group.proofs.counts.lower_in.Goals as goal

pub lower_run-lowered-requires-clause-room : goal.lower_run-lowered-requires-clause-room
lower_run-lowered-requires-clause-room c = omega (arith, group_room _ _ c.requires.group.trees)

pub write_head-requires : goal.write_head-requires
write_head-requires c =
    let step = counts_changed _ _ _ c.lower_run-lowered.new.self 4 21 c.lower_run-lowered.ensures.step in
    rw c.head_of-before.ensures.is (record { group = old_head counts_part 21 _ _ _ _ c.requires.group step c.has_blocks.ensures.image })

pub returns-clause-change : goal.returns-clause-change
returns-clause-change c =
    with_head counts_part 21 _ _ _ _ c.requires.group (counts_changed _ _ _ c.lower_run-lowered.new.self 4 21 c.lower_run-lowered.ensures.step) _ c.write_head.ensures.written

pub returns-clause-lowered : goal.returns-clause-lowered
returns-clause-lowered c changed =
    subst (λ (xs : List Reference). Lowers (reference_records c.args.over.now c.args.trees.now.counts) c.args.run xs)
    (references_stay c.lower_run-lowered.new.over c.write_head.new.over (record c.args.trees.now { counts = c.lower_run-lowered.new.self }) c.write_head.ensures.written)
    (c.lower_run-lowered.ensures.lowered changed)

pub returns-clause-same : goal.returns-clause-same
returns-clause-same c freed =
    let same = c.lower_run-lowered.ensures.same freed in
    let head = ap (λ (b : Blocks). head_of b (record c.args.trees.now { counts = c.lower_run-lowered.new.self })) same.0
    ∙ ap (λ (r : Refcount). head_of c.args.over.now (record c.args.trees.now { counts = r })) same.1 in
    c.write_head.ensures.same (head ∙ sym c.head_of-before.ensures.is) ∙ same.0
