use Rattle.std.proofs.Common.{◌∙◌, sym, ap}
use Rattle.xr_block.specs.TreeBlock.{count_in}
use Rattle.xr_block.specs.DescentLaws.{in_pool, leaf_is}
use Rattle.xr_lookup.proofs.steps.record_count.Goals as goal

pub block-requires : goal.block-requires
block-requires g c = in_pool g.R.Record.form c.args.over.now 0 c.args.n c.requires

pub returns : goal.returns
returns g c =
    let leaf = leaf_is g.R.Record.form g.met.R.Record.is_form c.args.over.now c.args.n c.requires in
    c.count_of.ensures.count ∙ ap count_in c.block.ensures ∙ sym leaf.counted
