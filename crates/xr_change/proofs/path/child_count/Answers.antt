use Rattle.std.proofs.Common.{rules, ap, arith}
use Rattle.xr_change.proofs.ItemMoveLemmas.{placed_count}
use Rattle.xr_change.proofs.BlockInTreeLemmas.{in_pool}
use Rattle.xr_change.proofs.ParentLemmas.{kth_child}
use Rattle.xr_change.specs.Paths.{item_count}
use Rattle.xr_change.proofs.path.child_count.Goals as goal

pub block-requires : goal.block-requires
block-requires g c = in_pool g.R.Record.form c.args.draft.now c.args.level c.child_block-child.result c.child_block-child.ensures.here

pub returns : goal.returns
returns g c =
    let form = g.R.Record.form in
    let over = c.args.draft.now in
    let kth = c.child_block-child.ensures.kth in
    let size = placed_count form g.met.R.Record.is_form over kth.known c.args.level c.child_block-child.result
    (kth_child form g.met.R.Record.is_form over c.args.level c.args.n c.args.k c.child_block-child.result kth).placed in
    record {
      count = omega (arith, c.count_of.ensures.count, c.block.ensures.count, size.0, ap (item_count form over c.args.level) kth.is);
      most = omega (arith, c.count_of.ensures.count, c.block.ensures.count, size.0, size.1);
      small = search rules;
    }
