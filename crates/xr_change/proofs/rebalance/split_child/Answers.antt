use Rattle.std.proofs.Common.{[], arith}
use Rattle.xr_change.proofs.RebalanceLemmas.{first_key, next_key, split_made, split_moves, split_ready}
use Rattle.xr_block.specs.TimesLaws.{times_same}
use Rattle.xr_change.proofs.rebalance.split_child.Goals as goal

pub split_items-requires : goal.split_items-requires
split_items-requires g c =
    let spot = c.take_free-fresh.ensures in
    let ready = split_ready g.met.R.Record.is_form c.child_block-child.ensures.kth spot.within spot.was_free spot.taken c.requires.full in
    record { level = ready.0; placed = ready.1; full = ready.2; within = ready.3; apart = ready.4; beside = ready.5 }

pub set_child_key-requires : goal.set_child_key-requires
set_child_key-requires g c =
    let laws = g.met.R.Record.is_form in
    let kth = c.child_block-child.ensures.kth in
    let spot = c.take_free-fresh.ensures in
    let keys = first_key laws kth (split_moves laws kth spot.within spot.was_free spot.taken c.split_items.ensures) in
    record { here = keys.here; keyed = keys.keyed; within = omega (arith, keys.count, kth.within); few = omega (arith, keys.count, kth.few) }

pub insert_child-requires : goal.insert_child-requires
insert_child-requires g c =
    let laws = g.met.R.Record.is_form in
    let kth = c.child_block-child.ensures.kth in
    let spot = c.take_free-fresh.ensures in
    let keys = next_key laws kth (split_moves laws kth spot.within spot.was_free spot.taken c.split_items.ensures) c.set_child_key.ensures.writes c.set_child_key.ensures.node
    c.take_free-fresh.result (omega (arith, times_same c.take_free-fresh.result [])) in
    record { here = keys.here; keyed = keys.keyed; within = omega (arith, keys.count, kth.within); room = omega (arith, keys.count, c.requires.room) }

pub returns : goal.returns
returns g c =
    let spot = c.take_free-fresh.ensures in
    let made = split_made g.met.R.Record.is_form c.child_block-child.ensures.kth spot.within spot.was_free spot.taken c.split_items.ensures
    c.set_child_key.ensures.writes c.set_child_key.ensures.node c.insert_child.ensures.writes c.insert_child.ensures.node in
    record { split = made.0; free = made.1; marks = made.2; changed = made.3 }
