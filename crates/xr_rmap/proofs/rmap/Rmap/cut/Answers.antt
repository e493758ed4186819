-- A record is one less.
use Rattle.std.proofs.Common.{arith}
use Rattle.xr_change.specs.SetLaws.{removed_at_most}
use Rattle.xr_change.specs.TreeStepLaws.{removal_is_loss}
use Rattle.xr_kinds.specs.Reverse.{reverse_form}
use Rattle.xr_kinds.specs.ReverseLaws.{is_reverse_form}
use Rattle.xr_rmap.proofs.RecordLemmas.{change_step}
use Rattle.xr_rmap.specs.Rmap.{owner_records}
use Rattle.xr_rmap.proofs.rmap.Rmap.cut.Goals as goal

pub returns-clause-step : goal.returns-clause-step
returns-clause-step c = change_step _ _ _ _ _ 0 c.requires.tree c.remove.ensures.step (omega (arith, c.remove.ensures.room))

pub returns-clause-set : goal.returns-clause-set
returns-clause-set c = removal_is_loss reverse_form is_reverse_form _ _ _ _ c.args.r.now c.requires.tree c.requires.held c.remove.ensures.step

pub returns-clause-fewer : goal.returns-clause-fewer
returns-clause-fewer c =
    let step = c.remove.ensures.step in
    rw step.set (removed_at_most reverse_form.order c.args.r.now (owner_records c.args.over.now c.args.self.now))
