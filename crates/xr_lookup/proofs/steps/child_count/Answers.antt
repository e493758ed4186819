use Rattle.std.proofs.Common.{◌∙◌, ◌+◌, sym, ap}
use Rattle.xr_block.specs.NodeEntryLaws.{length-entries}
use Rattle.xr_pool.specs.Overlay.{block_at}
use Rattle.xr_block.specs.TreeBlock.{count_in}
use Rattle.xr_block.specs.DescentLaws.{in_pool}
use Rattle.xr_lookup.proofs.steps.child_count.Goals as goal

pub block-requires : goal.block-requires
block-requires g c = in_pool g.R.Record.form c.args.over.now (c.args.level + 1) c.args.n c.requires

pub returns : goal.returns
returns g c =
    c.count_of.ensures.count ∙ ap count_in c.block.ensures ∙ sym (length-entries g.R.Record.form (block_at c.args.over.now c.args.n))
