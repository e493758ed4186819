use Rattle.std.proofs.Common.{ℕ, List, sym, subst}
use Rattle.xr_block.specs.Bounds.{IsParted, is_before}
use Rattle.xr_block.specs.Leaf.{IsLeaf}
use Rattle.xr_block.specs.TreeBlock.{records_in}
use Rattle.xr_block.specs.DescentLaws.{in_pool, leaf_is, leaf_parted}
use Rattle.xr_lookup.proofs.steps.records_before.Goals as goal

pub block-requires : goal.block-requires
block-requires g c = in_pool g.R.Record.form c.args.over.now 0 c.args.n c.requires

pub record_place-requires-clause-leaf : goal.record_place-requires-clause-leaf
record_place-requires-clause-leaf g c =
    let form = g.R.Record.form in
    subst (IsLeaf form) (sym c.block.ensures) (leaf_is form g.met.R.Record.is_form c.args.over.now c.args.n c.requires)

pub record_place-requires-clause-parted : goal.record_place-requires-clause-parted
record_place-requires-clause-parted g c =
    let form = g.R.Record.form in
    subst (λ (bytes : List ℕ). IsParted (is_before form c.args.bound.now) (records_in form bytes)) (sym c.block.ensures)
    (leaf_parted form g.met.R.Record.is_form c.args.over.now c.args.n c.requires c.args.bound.now)
