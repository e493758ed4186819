use Rattle.std.proofs.Common.{◌∙◌, ap, sym}
use Rattle.xr_change.proofs.FullPathLemmas.{full_read, most_of_node}
use Rattle.xr_change.proofs.BlockInTreeLemmas.{in_pool}
use Rattle.xr_change.specs.Paths.{max_records}
use Rattle.xr_change.proofs.path.is_full.Goals as goal

pub block-requires : goal.block-requires
block-requires g c = in_pool g.R.Record.form c.args.draft.now c.args.level c.args.n c.requires

pub returns-then-level-eq0 : goal.returns-then-level-eq0
returns-then-level-eq0 g c =
    full_read g.R.Record.form g.met.R.Record.is_form c.args.draft.now c.args.level c.args.n c.requires c.count_of-count.result c.LEAF_MAX.result c.count_of-count.ensures.count
    c.block.ensures (c.LEAF_MAX.ensures ∙ sym g.met.R.Record.numbers.same_leaf_max ∙ ap (max_records g.R.Record.form) (sym c.if-level-eq0.true))

pub returns-else-level-eq0 : goal.returns-else-level-eq0
returns-else-level-eq0 g c =
    full_read g.R.Record.form g.met.R.Record.is_form c.args.draft.now c.args.level c.args.n c.requires c.count_of-count.result c.NODE_MAX.result c.count_of-count.ensures.count
    c.block.ensures (c.NODE_MAX.ensures ∙ sym g.met.R.Record.numbers.same_node_max ∙ most_of_node g.R.Record.form c.args.level c.if-level-eq0.false)
