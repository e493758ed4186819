use Rattle.std.proofs.Common.{refl, arith, sym, subst, ◌+◌, ℕ}
use Rattle.xr_items.specs.declared.item.Item.TheVariants.{Buf}
use Rattle.xr_scan.proofs.ReplayLoopLemmas.{IsReplaying, goes_on}
use Rattle.xr_scan.proofs.replay.replay_items.Goals as goal

pub replay_item-at-requires-clause-here : goal.replay_item-at-requires-clause-here
replay_item-at-requires-clause-here c =
    let given = c.requires.logs in
    let g = goes_on c.args.regions.now c.args.items.now given.0 c.loop-item.at c.loop-item.item-index _ (Buf 0) c.args.blocks.now c.args.dirty.now
    c.loop-item.blocks c.loop-item.dirty given.1 given.2 c.loop-item-test.true refl (c.loop-item.invariant given.0 given.1 given.2) in
    (g.l, g.next)

pub overflow_add-at : goal.overflow_add-at
overflow_add-at c =
    let given = c.requires.logs in
    let g = goes_on c.args.regions.now c.args.items.now given.0 c.loop-item.at c.loop-item.item-index _ (Buf 0) c.args.blocks.now c.args.dirty.now
    c.loop-item.blocks c.loop-item.dirty given.1 given.2 c.loop-item-test.true refl (c.loop-item.invariant given.0 given.1 given.2) in
    omega (arith, g.within, c.len-count.ensures, c.replay_item-at.ensures.count)

pub loop-item-preserved : goal.loop-item-preserved
loop-item-preserved c =
    λ ls logs are.
    let g = goes_on c.args.regions.now c.args.items.now ls c.loop-item.at c.loop-item.item-index _ (Buf 0) c.args.blocks.now c.args.dirty.now
    c.loop-item.blocks c.loop-item.dirty logs are c.loop-item-test.true refl (c.loop-item.invariant ls logs are) in
    subst (λ (n : ℕ). IsReplaying ls (c.loop-item.at + n) (c.loop-item.item-index + 1) c.args.blocks.now c.args.dirty.now c.replay_item-at.new.blocks c.replay_item-at.new.dirty)
    (sym c.replay_item-at.ensures.count) (g.on c.replay_item-at.new.blocks c.replay_item-at.new.dirty (c.replay_item-at.ensures.replays g.l g.next))
