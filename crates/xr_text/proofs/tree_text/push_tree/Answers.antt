use Rattle.std.specs.String.{string_bytes}
use Rattle.xr_text.proofs.TreeTextLemmas.{less_is_left, prints_all, prints_more, prints_none}
use Rattle.xr_text.proofs.tree_text.push_tree.Goals as goal

pub loop-record-init : goal.loop-record-init
loop-record-init g c = prints_none g.T.PrintedTree.line (g.T.GroupTree.records c.args.group.now) (string_bytes c.args.text.now)

pub loop-record-preserved : goal.loop-record-preserved
loop-record-preserved g c =
    let tree = g.T.GroupTree in
    prints_more tree.records tree.before tree.start g.met.T.GroupTree.ordered c.args.group.now c.is_group.ensures g.T.PrintedTree.line
    (string_bytes c.args.text.now) (string_bytes c.loop-record.text) c.loop-record.last c.loop-record.invariant
    c.in-Some.record (string_bytes c.push_line.new.text) c.in-Some.ensures c.in_ok-push_line.ensures

pub loop-record-smaller : goal.loop-record-smaller
loop-record-smaller g c =
    let tree = g.T.GroupTree in
    less_is_left tree.records tree.before tree.start g.met.T.GroupTree.ordered c.args.group.now c.is_group.ensures g.T.PrintedTree.line
    (string_bytes c.args.text.now) (string_bytes c.loop-record.text) c.loop-record.last c.loop-record.invariant
    c.in-Some.record (string_bytes c.push_line.new.text) c.in-Some.ensures c.in_ok-push_line.ensures (g.met.T.PrintedTree.some c.in-Some.record)

pub returns : goal.returns
returns g c =
    let tree = g.T.GroupTree in
    prints_all tree.records tree.before tree.start g.met.T.GroupTree.ordered c.args.group.now c.is_group.ensures g.T.PrintedTree.line
    (string_bytes c.args.text.now) (string_bytes c.loop-record.text) c.loop-record.last c.loop-record.invariant c.in_default.ensures
