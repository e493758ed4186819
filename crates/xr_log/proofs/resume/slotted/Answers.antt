use Rattle.std.proofs.Common.{refl, arith}
use Rattle.xr_log.proofs.ResumeLemmas.{all_slotted, slotting_more}
use Rattle.xr_log.proofs.resume.slotted.Goals as goal

pub loop-i-init : goal.loop-i-init
loop-i-init c = record { items = c.in_ok-table.ensures.items; fits = c.in_ok-table.ensures.capacity }

pub loop-i-preserved : goal.loop-i-preserved
loop-i-preserved c =
    slotting_more c.args.pending.now c.loop-i.i _ c.loop-i.table c.push.new.self _ c.loop-i.invariant c.loop-i-test.true refl c.in_ok-push.ensures.items c.push.ensures.capacity

pub returns-clause-items : goal.returns-clause-items
returns-clause-items c =
    all_slotted c.args.pending.now c.loop-i.i c.loop-i.table c.loop-i.invariant (omega (arith, c.loop-i-test.false, c.loop-i.auto.i-end))

pub returns-clause-fits : goal.returns-clause-fits
returns-clause-fits c = c.loop-i.invariant.fits
