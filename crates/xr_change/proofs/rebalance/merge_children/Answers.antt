use Rattle.std.proofs.Common.{[], arith, ap}
use Rattle.xr_block.specs.TimesLaws.{times_same}
use Rattle.xr_change.proofs.RebalanceLemmas.{first_key, merge_below, merge_made, merge_moves, next_key, pair_ready}
use Rattle.xr_change.specs.Paths.{item_count}
use Rattle.xr_change.proofs.rebalance.merge_children.Goals as goal

pub merge_items-requires : goal.merge_items-requires
merge_items-requires g c =
    let ready = pair_ready g.met.R.Record.is_form c.child_block-c.ensures.kth c.child_block-d.ensures.kth in
    let first = ap (item_count g.R.Record.form c.args.draft.now c.args.level) c.child_block-c.ensures.kth.is in
    let second = ap (item_count g.R.Record.form c.args.draft.now c.args.level) c.child_block-d.ensures.kth.is in
    record { level = ready.0; placed = ready.1; beside = ready.3; fits = omega (arith, c.requires.fits, first, second) }

pub give_block-requires : goal.give_block-requires
give_block-requires g c = merge_below g.met.R.Record.is_form c.child_block-c.ensures.kth c.child_block-d.ensures.kth c.merge_items.ensures

pub set_child_key-requires : goal.set_child_key-requires
set_child_key-requires g c =
    let laws = g.met.R.Record.is_form in
    let kth = c.child_block-c.ensures.kth in
    let keys = first_key laws kth (merge_moves laws kth c.child_block-d.ensures.kth c.merge_items.ensures c.give_block.ensures) in
    record { here = keys.here; keyed = keys.keyed; within = omega (arith, keys.count, kth.within); few = omega (arith, keys.count, kth.few) }

pub remove_child-requires : goal.remove_child-requires
remove_child-requires g c =
    let laws = g.met.R.Record.is_form in
    let kth = c.child_block-c.ensures.kth in
    let keys = next_key laws kth (merge_moves laws kth c.child_block-d.ensures.kth c.merge_items.ensures c.give_block.ensures) c.set_child_key.ensures.writes
    c.set_child_key.ensures.node c.child_block-c.result (omega (arith, times_same c.child_block-c.result [])) in
    record { here = keys.here.0; within = omega (arith, keys.count, c.requires.within); few = omega (arith, keys.count, kth.few) }

pub returns : goal.returns
returns g c =
    let laws = g.met.R.Record.is_form in
    let kth = c.child_block-c.ensures.kth in
    let after = c.child_block-d.ensures.kth in
    let made = merge_made laws kth after (merge_moves laws kth after c.merge_items.ensures c.give_block.ensures)
    c.set_child_key.ensures.writes c.set_child_key.ensures.node c.remove_child.ensures.writes c.remove_child.ensures.node in
    record { merge = made.0; marks = made.1; changed = made.2 }
