use Rattle.xr_check.proofs.WalkLemmas.{both_end, both_go_on, list_goes_on, tree_goes_on}
use Rattle.xr_check.specs.WalkLaws.{one_more}
use Rattle.xr_check.proofs.walk.first_difference.Goals as goal

pub returns-in_default : goal.returns-in_default
returns-in_default g c =
    let tree = g.T.GroupTree in
    let walk = c.loop-wanted in
    list_goes_on tree.records tree.before tree.start g.met.T.GroupTree.ordered c.args.group.now c.is_group.ensures c.args.defined.now walk.wanted-index walk.last walk.invariant
    c.in_default.ensures c.wanted-item.result c.start_of.result c.loop-wanted-test.true c.wanted-item.is c.start_of.ensures

pub returns-in-Some-lesser_start : goal.returns-in-Some-lesser_start
returns-in-Some-lesser_start g c =
    let tree = g.T.GroupTree in
    let walk = c.loop-wanted in
    both_go_on tree.records tree.before tree.start g.met.T.GroupTree.ordered c.args.group.now c.is_group.ensures c.args.defined.now walk.wanted-index walk.last walk.invariant
    c.in-Some.held c.wanted-item.result c.in-Some-lesser_start.key c.in-Some.ensures c.loop-wanted-test.true c.wanted-item.is c.in-Some-lesser_start.ensures

pub loop-wanted-preserved : goal.loop-wanted-preserved
loop-wanted-preserved g c =
    let tree = g.T.GroupTree in
    let walk = c.loop-wanted in
    one_more tree.records tree.before tree.start g.met.T.GroupTree.ordered c.args.group.now c.is_group.ensures c.args.defined.now walk.wanted-index walk.last walk.invariant
    c.in-Some.held c.wanted-item.result c.in-Some.ensures c.loop-wanted-test.true c.wanted-item.is c.in_default-lesser_start.ensures

pub returns-in-Some-next : goal.returns-in-Some-next
returns-in-Some-next g c =
    let tree = g.T.GroupTree in
    let walk = c.loop-wanted in
    tree_goes_on tree.records tree.before tree.start g.met.T.GroupTree.ordered c.args.group.now c.is_group.ensures c.args.defined.now walk.wanted-index walk.last walk.invariant
    c.in-Some-next.held c.start_of-in-Some-next.result c.in-Some-next.ensures c.loop-wanted-test.false c.start_of-in-Some-next.ensures

pub returns-in-None : goal.returns-in-None
returns-in-None g c =
    let tree = g.T.GroupTree in
    let walk = c.loop-wanted in
    both_end tree.records tree.before tree.start g.met.T.GroupTree.ordered c.args.group.now c.is_group.ensures c.args.defined.now walk.wanted-index walk.last walk.invariant
    c.in-None.ensures c.loop-wanted-test.false
