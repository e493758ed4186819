use Rattle.std.proofs.Common.{◌≡◌, ◌+◌, arith, sym}
use Rattle.xr_change.proofs.BlockInTreeLemmas.{node_in}
use Rattle.xr_change.proofs.RowItemLemmas.{min_records_is}
use Rattle.xr_change.proofs.SurplusLemmas.{merge_surplus, rebalance_first, rebalance_second}
use Rattle.xr_change.proofs.path.fill_child.Goals as goal

pub returns-then-all-max_records_of : goal.returns-then-all-max_records_of
returns-then-all-max_records_of g c =
    let made = c.merge_children.ensures in
    merge_surplus g.met.R.Record.is_form (node_in g.R.Record.form c.args.draft.now c.args.level c.args.n c.requires.here) c.saturating_sub-left.result made.merge made.marks
    made.changed (omega (arith, c.saturating_sub-left.ensures, c.requires.two, c.requires.within)) c.args.k (omega (arith, c.saturating_sub-left.ensures))
    (omega (arith, c.saturating_sub-left.ensures))

pub rebalance_children-requires-clause-low : goal.rebalance_children-requires-clause-low
rebalance_children-requires-clause-low g c = (
  omega (arith, min_records_is g.R.Record.form c.args.level, c.max_records_of.ensures, c.if-all-max_records_of.false),
  omega (arith, c.child_count.ensures.most, c.child_count-2.ensures.most),
)

pub rebalance_children-requires-clause-high : goal.rebalance_children-requires-clause-high
rebalance_children-requires-clause-high g c =
    omega (arith, min_records_is g.R.Record.form c.args.level, c.max_records_of.ensures, c.if-all-max_records_of.false, c.child_count.ensures.count, c.child_count-2.ensures.count)

pub returns-then-left-k : goal.returns-then-left-k
returns-then-left-k g c =
    let made = c.rebalance_children.ensures in
    rebalance_first g.met.R.Record.is_form (node_in g.R.Record.form c.args.draft.now c.args.level c.args.n c.requires.here) c.saturating_sub-left.result made.rebalance made.marks
    made.changed (omega (arith, c.saturating_sub-left.ensures, c.requires.two, c.requires.within)) c.args.k (sym c.if-left-k.true)
    (omega (arith, made.count, min_records_is g.R.Record.form c.args.level, c.max_records_of.ensures, c.if-all-max_records_of.false)) c.requires.low

pub rebalance_children-requires-2-clause-low : goal.rebalance_children-requires-2-clause-low
rebalance_children-requires-2-clause-low g c = (
  omega (arith, min_records_is g.R.Record.form c.args.level, c.max_records_of.ensures, c.if-all-max_records_of.false),
  omega (arith, c.child_count.ensures.most, c.child_count-2.ensures.most),
)

pub rebalance_children-requires-2-clause-high : goal.rebalance_children-requires-2-clause-high
rebalance_children-requires-2-clause-high g c =
    omega (arith, min_records_is g.R.Record.form c.args.level, c.max_records_of.ensures, c.if-all-max_records_of.false, c.child_count.ensures.count, c.child_count-2.ensures.count)

pub returns : goal.returns
returns g c =
    let made = c.rebalance_children-2.ensures in
    let same : c.args.k ≡ c.saturating_sub-left.result + 1 = omega (arith, c.saturating_sub-left.ensures, c.if-left-k.false) in
    rebalance_second g.met.R.Record.is_form (node_in g.R.Record.form c.args.draft.now c.args.level c.args.n c.requires.here) c.saturating_sub-left.result made.rebalance made.marks
    made.changed (omega (arith, c.requires.within, same)) c.args.k same
    (omega (arith, made.count, min_records_is g.R.Record.form c.args.level, c.max_records_of.ensures, c.if-all-max_records_of.false, c.child_count.ensures.count, c.child_count-2.ensures.count))
    c.requires.low
