use Rattle.xr_log.proofs.CommitPlanLemmas.{has_slots}
use Rattle.xr_log.proofs.TableLemmas.{numbered_entered}
use Rattle.xr_log.proofs.entering.enter.Goals as goal

pub enter_works-placed-requires-clause-may : goal.enter_works-placed-requires-clause-may
enter_works-placed-requires-clause-may c = has_slots c.args.held.now c.args.trans.now c.requires.may

pub invariant_of-held-clause-slots : goal.invariant_of-held-clause-slots
invariant_of-held-clause-slots c = c.enter_works-placed.ensures.apart c.args.held.now.slots

pub invariant_of-held-clause-numbered : goal.invariant_of-held-clause-numbered
invariant_of-held-clause-numbered c =
    numbered_entered c.args.trans.now c.args.held.now.table.items c.enter_works-placed.new.table.items c.args.held.now.next c.enter_works-placed.result c.works.result.now
    c.args.held.now.numbered c.blocks-2.ensures.valid c.requires.ids c.enter_works-placed.ensures.long c.enter_works-placed.ensures.table c.works.ensures.list
