use Rattle.std.proofs.Common.{◌+◌, ◌≤◌, ℕ, List, sym, subst, arith}
use Rattle.xr_block.specs.Bounds.{IsParted, entry_is_before}
use Rattle.xr_block.specs.TreeBlock.{count_in, entries_in}
use Rattle.xr_block.specs.DescentLaws.{in_pool, node_few, node_parted}
use Rattle.xr_lookup.proofs.steps.children_before.Goals as goal

pub block-requires : goal.block-requires
block-requires g c = in_pool g.R.Record.form c.args.over.now (c.args.level + 1) c.args.n c.requires

pub child_place-requires-clause-few : goal.child_place-requires-clause-few
child_place-requires-clause-few g c =
    let form = g.R.Record.form in
    subst (λ (bytes : List ℕ). count_in bytes ≤ form.node_max) (sym c.block.ensures)
    (node_few form g.met.R.Record.is_form c.args.over.now (c.args.level + 1) c.args.level c.args.n (omega arith) c.requires)

pub child_place-requires-clause-parted : goal.child_place-requires-clause-parted
child_place-requires-clause-parted g c =
    let form = g.R.Record.form in
    subst (λ (bytes : List ℕ). IsParted (entry_is_before form c.args.bound.now) (entries_in form bytes)) (sym c.block.ensures)
    (node_parted form g.met.R.Record.is_form c.args.over.now (c.args.level + 1) c.args.level c.args.n (omega arith) c.requires c.args.bound.now)
