use Rattle.std.proofs.Common.{◌+◌, arith}
use Rattle.xr_block.specs.NodeEntryLaws.{length-entries}
use Rattle.xr_pool.specs.Overlay.{block_at}
use Rattle.xr_block.specs.DescentLaws.{child_is, in_pool, node_few}
use Rattle.xr_lookup.proofs.steps.child_of.Goals as goal

pub block-requires : goal.block-requires
block-requires g c = in_pool g.R.Record.form c.args.over.now (c.args.level + 1) c.args.n c.requires.node

pub child_at-child-requires : goal.child_at-child-requires
child_at-child-requires g c =
    let few = node_few g.R.Record.form g.met.R.Record.is_form c.args.over.now (c.args.level + 1) c.args.level c.args.n (omega arith) c.requires.node in
    omega (arith, g.met.R.Record.numbers.same_node_max, c.requires.within, length-entries g.R.Record.form (block_at c.args.over.now c.args.n))

pub prove-unreachable-requires : goal.prove-unreachable-requires
prove-unreachable-requires g c =
    let child = child_is g.R.Record.form g.met.R.Record.is_form c.args.over.now c.args.level c.args.n c.args.k c.child_at-child.result c.block.result.now
    c.requires.node c.requires.within c.block.ensures c.child_at-child.ensures.value in
    let own = in_pool g.R.Record.form c.args.over.now c.args.level c.child_at-child.result child.1 in
    omega (arith, c.if-prove.true, c.from.ensures, c.len.ensures)

pub returns-clause-under : goal.returns-clause-under
returns-clause-under g c =
    let child = child_is g.R.Record.form g.met.R.Record.is_form c.args.over.now c.args.level c.args.n c.args.k c.child_at-child.result c.block.result.now
    c.requires.node c.requires.within c.block.ensures c.child_at-child.ensures.value in
    child.1

pub returns-clause-child : goal.returns-clause-child
returns-clause-child g c =
    let child = child_is g.R.Record.form g.met.R.Record.is_form c.args.over.now c.args.level c.args.n c.args.k c.child_at-child.result c.block.result.now
    c.requires.node c.requires.within c.block.ensures c.child_at-child.ensures.value in
    child.0
