use Rattle.std.proofs.Common.{refl}
use Rattle.xr_log.proofs.CopyLemmas.{lays_next}
use Rattle.xr_log.proofs.entering.lay_blocks.Goals as goal

pub loop-logged-preserved : goal.loop-logged-preserved
loop-logged-preserved c =
    lays_next c.args.changed.now c.loop-logged.logged-index _ _ c.args.copies.now c.loop-logged.copies c.lay_block.new.blocks c.args.dirty.now c.loop-logged.dirty
    c.lay_block.new.dirty c.requires.may c.loop-logged-test.true refl c.loop-logged.invariant c.lay_block.ensures.blocks c.lay_block.ensures.dirty
