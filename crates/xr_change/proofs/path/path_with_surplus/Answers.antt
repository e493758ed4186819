use Rattle.std.proofs.Common.{arith}
use Rattle.xr_change.proofs.DescentLemmas.{held_on_path}
use Rattle.xr_change.proofs.BlockInTreeLemmas.{node_in, node_items}
use Rattle.xr_change.proofs.RowItemLemmas.{min_records_is}
use Rattle.xr_change.proofs.SurplusLemmas.{surplus_here}
use Rattle.xr_change.proofs.path.path_with_surplus.Goals as goal

pub returns-then-child_count-max_records_of : goal.returns-then-child_count-max_records_of
returns-then-child_count-max_records_of g c =
    let form = g.R.Record.form in
    let laws = g.met.R.Record.is_form in
    let over = c.args.draft.now in
    let k = c.path_index-k.result in
    let path = c.path_index-k.ensures.path in
    let here = node_in form over c.args.level c.args.n c.requires.here in
    surplus_here form laws over c.args.level c.args.n k c.args.r.now here path.within
    (held_on_path form laws over c.args.level c.args.n k here path.within c.args.r.now path c.requires.held)
    (omega (arith, min_records_is form c.args.level, c.max_records_of.ensures, c.child_count.ensures.count, c.if-child_count-max_records_of.true))

pub fill_child-requires-clause-two : goal.fill_child-requires-clause-two
fill_child-requires-clause-two g c = omega (arith, c.requires.two, node_items g.R.Record.form c.args.draft.now c.args.level c.args.n)

pub fill_child-requires-clause-low : goal.fill_child-requires-clause-low
fill_child-requires-clause-low g c =
    omega (arith, min_records_is g.R.Record.form c.args.level, c.max_records_of.ensures, c.child_count.ensures.count, c.if-child_count-max_records_of.false)

pub returns : goal.returns
returns g c =
    let form = g.R.Record.form in
    let over = c.args.draft.now in
    let path = c.path_index-k.ensures.path in
    c.fill_child.ensures c.args.r.now
    (held_on_path form g.met.R.Record.is_form over c.args.level c.args.n c.path_index-k.result (node_in form over c.args.level c.args.n c.requires.here)
    path.within c.args.r.now path c.requires.held)
