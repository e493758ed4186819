use Rattle.xr_scan.proofs.EntryReplayLemmas.{all_ends, next_of}
use Rattle.xr_scan.proofs.replay.replay.Goals as goal

pub replay_entry-requires-clause-logs : goal.replay_entry-requires-clause-logs
replay_entry-requires-clause-logs c =
    let given = c.requires.log in
    let next = next_of c.args.entries.now c.args.items.now given.0 c.loop-i.i c.index-entries-i.result c.index-items-i.result c.deref.result.now c.args.blocks.now c.args.dirty.now
    c.loop-i.blocks c.loop-i.dirty given.1 c.loop-i-test.true c.index-entries-i.is c.index-items-i.is c.deref.ensures.value (c.loop-i.invariant given.0 given.1) in
    (next.first, next.logs)

pub loop-i-preserved : goal.loop-i-preserved
loop-i-preserved c =
    λ ls each.
    let next = next_of c.args.entries.now c.args.items.now ls c.loop-i.i c.index-entries-i.result c.index-items-i.result c.deref.result.now c.args.blocks.now c.args.dirty.now
    c.loop-i.blocks c.loop-i.dirty each c.loop-i-test.true c.index-entries-i.is c.index-items-i.is c.deref.ensures.value (c.loop-i.invariant ls each) in
    next.on c.replay_entry.new.blocks c.replay_entry.new.dirty (c.replay_entry.ensures next.first next.logs)

pub returns : goal.returns
returns c = λ ls each. all_ends c.args.entries.now _ ls c.loop-i.i c.args.blocks.now c.args.dirty.now c.loop-i.blocks c.loop-i.dirty each c.loop-i-test.false (c.loop-i.invariant ls each)
