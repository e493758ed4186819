use Rattle.std.proofs.Common.{ap, arith, ◌∙◌}
use Rattle.xr_log.specs.Resumes.{slotted_in}
use Rattle.xr_log.proofs.ResumeLemmas.{table_apart, table_long, table_numbered}
use Rattle.xr_log.proofs.resume.held_from.Goals as goal

pub invariant_of-result-clause-slots : goal.invariant_of-result-clause-slots
invariant_of-result-clause-slots c =
    table_apart c.in_ok-table.table.items c.args.scanned.pending.items (c.in_ok-table.ensures.items ∙ ap (slotted_in 0) c.deref.ensures.value)

pub invariant_of-result-clause-numbered : goal.invariant_of-result-clause-numbered
invariant_of-result-clause-numbered c =
    table_numbered c.in_ok-table.table.items c.args.scanned.pending.items c.args.scanned.next (c.in_ok-table.ensures.items ∙ ap (slotted_in 0) c.deref.ensures.value)
    c.args.scanned.numbered

pub invariant_of-result-clause-few : goal.invariant_of-result-clause-few
invariant_of-result-clause-few c =
    omega (arith, table_long c.in_ok-table.table.items c.args.scanned.pending.items (c.in_ok-table.ensures.items ∙ ap (slotted_in 0) c.deref.ensures.value), c.args.scanned.few)
