use Rattle.std.proofs.Common.{[], arith, ap}
use Rattle.xr_block.specs.TimesLaws.{times_same}
use Rattle.xr_change.proofs.RebalanceLemmas.{first_key, next_key, pair_ready, rebalance_made, rebalance_moves}
use Rattle.xr_change.specs.Paths.{item_count}
use Rattle.xr_change.proofs.rebalance.rebalance_children.Goals as goal

pub rebalance_items-requires : goal.rebalance_items-requires
rebalance_items-requires g c =
    let ready = pair_ready g.met.R.Record.is_form c.child_block-c.ensures.kth c.child_block-d.ensures.kth in
    let first = ap (item_count g.R.Record.form c.args.draft.now c.args.level) c.child_block-c.ensures.kth.is in
    let second = ap (item_count g.R.Record.form c.args.draft.now c.args.level) c.child_block-d.ensures.kth.is in
    record {
      level = ready.0;
      placed = ready.1;
      apart = ready.2;
      beside = ready.3;
      low = c.requires.low;
      high = omega (arith, c.requires.high, first, second);
      high_most = omega (arith, c.requires.high_most, first, second);
    }

pub set_child_key-requires : goal.set_child_key-requires
set_child_key-requires g c =
    let laws = g.met.R.Record.is_form in
    let kth = c.child_block-c.ensures.kth in
    let keys = first_key laws kth (rebalance_moves laws kth c.child_block-d.ensures.kth c.rebalance_items.ensures.rebalances) in
    record { here = keys.here; keyed = keys.keyed; within = omega (arith, keys.count, kth.within); few = omega (arith, keys.count, kth.few) }

pub set_child_key-requires-2 : goal.set_child_key-requires-2
set_child_key-requires-2 g c =
    let laws = g.met.R.Record.is_form in
    let kth = c.child_block-c.ensures.kth in
    let keys = next_key laws kth (rebalance_moves laws kth c.child_block-d.ensures.kth c.rebalance_items.ensures.rebalances) c.set_child_key.ensures.writes c.set_child_key.ensures.node
    c.child_block-d.result (omega (arith, times_same c.child_block-d.result [])) in
    record { here = keys.here; keyed = keys.keyed; within = omega (arith, keys.count, c.requires.within); few = omega (arith, keys.count, kth.few) }

pub returns : goal.returns
returns g c =
    let made = rebalance_made g.met.R.Record.is_form c.child_block-c.ensures.kth c.child_block-d.ensures.kth c.rebalance_items.ensures.rebalances
    c.set_child_key.ensures.writes c.set_child_key.ensures.node c.set_child_key-2.ensures.writes c.set_child_key-2.ensures.node c.args.count c.rebalance_items.ensures.count in
    record { rebalance = made.0; count = made.1; marks = made.2; changed = made.3 }
