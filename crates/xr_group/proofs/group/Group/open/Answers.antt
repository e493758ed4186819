-- The header is read, then the trees, and these part the pool.
use Rattle.std.proofs.lemmas.Result.{err_from_is_err_and}
use Rattle.xr_group.proofs.OpenLemmas.{opened_parts, opened_right, opened_size, opened_view, refuses_group}
use Rattle.xr_group.proofs.group.Group.open.Goals as goal

pub open_trees-requires : goal.open_trees-requires
open_trees-requires c = record { pool = opened_size c.args.group.0 c.args.uuid.now c.args.blocks.items _ _ c.in_ok-over.ensures.opened }

pub returns-in_err-trees-clause-refused : goal.returns-in_err-trees-clause-refused
returns-in_err-trees-clause-refused c =
    let p = err_from_is_err_and c.from_residual-in_err-trees.result c.from_residual-in_err-trees.ensures.1 in
    rw (p.1, p.2)
    (refuses_group c.args.group.0 c.args.uuid.now c.args.blocks.items _ _ c.in_err-trees.field-0.0 c.in_ok-over.ensures.opened c.in_err-trees.ensures.refused)

pub returns-clause-opened : goal.returns-clause-opened
returns-clause-opened c =
    let trees = c.in_ok-trees.ensures.trees in
    opened_view c.args.group.0 c.args.uuid.now c.args.blocks.items _ _ _ c.in_ok-over.ensures.opened trees.0 trees.1

pub invariant_of-result : goal.invariant_of-result
invariant_of-result c =
    let trees = c.in_ok-trees.ensures.trees in
    opened_parts c.args.group.0 c.args.uuid.now c.args.blocks.items _ _ _ c.in_ok-over.ensures.opened trees.0 trees.1 c.has_blocks.ensures.blocks

pub returns-clause-right : goal.returns-clause-right
returns-clause-right c =
    let trees = c.in_ok-trees.ensures.trees in
    opened_right c.args.group.0 c.args.uuid.now c.args.blocks.items _ _ _ c.in_ok-over.ensures.opened trees.0 trees.1 c.has_blocks.ensures.blocks
