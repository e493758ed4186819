use Rattle.std.proofs.Common.{◌≤◌, length, subst, sym}
use Rattle.xr_log.specs.declared.packing.Fill.{Fill}
use Rattle.xr_log.proofs.CommitPlanLemmas.{plan_fills_few}
use Rattle.xr_log.proofs.committing.filled_records.Goals as goal

pub returns-clause-few : goal.returns-clause-few
returns-clause-few c = λ trans is whole.
    subst (λ (f : Fill). f.records ≤ 12) (sym (c.filled.ensures trans.blocks whole))
    (plan_fills_few c.args.held.now trans c.args.plan.now (length c.body.result.now) is c.body.ensures.most)
