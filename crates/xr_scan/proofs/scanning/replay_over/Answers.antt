use Rattle.std.proofs.Common.{◌∙◌}
use Rattle.xr_scan.proofs.HomeLemmas.{blocks_back, dirty_back}
use Rattle.xr_scan.proofs.scanning.replay_over.Goals as goal

pub returns-clause-blocks : goal.returns-clause-blocks
returns-clause-blocks c ls each =
    blocks_back ls c.args.homes.items c.deref_mut.result.now c.replay.new.blocks _ _ c.args.homes.len c.deref_mut.ensures.value (c.replay.auto.blocks ∙ c.deref_mut.ensures.len) (c.replay.ensures ls each)

pub returns-clause-dirty : goal.returns-clause-dirty
returns-clause-dirty c ls each =
    dirty_back ls _ _ c.in_ok-dirty.dirty.items c.deref_mut-2.result.now c.replay.new.dirty c.in_ok-dirty.dirty.len c.deref_mut-2.ensures.value (c.in_ok-dirty.ensures.items_if_clones_equal (λ y same. same))
    (c.replay.auto.dirty ∙ c.deref_mut-2.ensures.len) (c.replay.ensures ls each)
