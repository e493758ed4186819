-- The core is read, then the tree, and the two part the pool.
use Rattle.std.proofs.lemmas.Result.{err_from_is_err_and}
use Rattle.xr_bmap.proofs.OpenLemmas.{opened_size, opened_view, refuses_file}
use Rattle.xr_bmap.proofs.file.File.open.Goals as goal

pub open_tree-requires : goal.open_tree-requires
open_tree-requires c = record { pool = opened_size c.args.file.0 c.args.uuid.now c.args.blocks.items _ _ c.in_ok-over.ensures.opened }

pub returns-in_err-tree-clause-refused : goal.returns-in_err-tree-clause-refused
returns-in_err-tree-clause-refused c =
    let p = err_from_is_err_and c.from_residual-in_err-tree.result c.from_residual-in_err-tree.ensures.1 in
    rw (p.1, p.2)
    (refuses_file c.args.file.0 c.args.uuid.now c.args.blocks.items _ _ c.in_err-tree.field-0.0 c.in_ok-over.ensures.opened c.in_err-tree.ensures.refused)

pub returns-clause-opened : goal.returns-clause-opened
returns-clause-opened c =
    let tree = c.in_ok-tree.ensures.tree in
    opened_view c.args.file.0 c.args.uuid.now c.args.blocks.items _ _ _ c.in_ok-over.ensures.opened tree.0 tree.1
