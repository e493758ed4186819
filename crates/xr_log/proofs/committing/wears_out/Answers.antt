use Rattle.std.proofs.Common.{◌∙◌, ◌*◌, ◌≤◌, ℕ, ap, arith, length, subst}
use Rattle.std.specs.Prelude.{◌↔◌, IsTrue}
use Rattle.xr_log.specs.Calls.{NeedsLastCycle}
use Rattle.xr_log.specs.CommitCalls.{commit_sectors}
use Rattle.xr_log.specs.Filling.{FULL_SECTORS}
use Rattle.xr_log.proofs.CommitPlanLemmas.{full_sectors, ids_fit, plan_given, plan_items_whole, plan_records, plan_valid, wants_none, wears_by_cycle}
use Rattle.xr_log.proofs.committing.wears_out.Goals as goal

pub filled_records-requires-clause-items : goal.filled_records-requires-clause-items
filled_records-requires-clause-items c =
    let log = c.args.held.now in
    let trans = c.args.trans.now in
    let fit = wants_none log c.works.result.now trans.works c.lacks_ids.result c.lacks_ids.ensures c.if-lacks_ids.false c.works.ensures.list in
    let is = plan_given log trans c.args.plan.now.items c.deref.result.now c.requires c.deref.ensures.0 in
    plan_valid trans.blocks c.deref.result.now (plan_items_whole log trans c.deref.result.now is (ids_fit log (length trans.works) fit))

pub overflow_mul-sectors : goal.overflow_mul-sectors
overflow_mul-sectors c =
    let log = c.args.held.now in
    let trans = c.args.trans.now in
    let fit = wants_none log c.works.result.now trans.works c.lacks_ids.result c.lacks_ids.ensures c.if-lacks_ids.false c.works.ensures.list in
    let is = plan_given log trans c.args.plan.now.items c.deref.result.now c.requires c.deref.ensures.0 in
    let few = c.filled_records.ensures.few trans is (plan_items_whole log trans c.deref.result.now is (ids_fit log (length trans.works) fit)) in
    let e = full_sectors c.record_sectors.result c.filled_records.result c.record_sectors.ensures in
    omega (arith, e, few)

pub needs_last_cycle-requires-clause-few : goal.needs_last_cycle-requires-clause-few
needs_last_cycle-requires-clause-few c =
    let log = c.args.held.now in
    let trans = c.args.trans.now in
    let fit = wants_none log c.works.result.now trans.works c.lacks_ids.result c.lacks_ids.ensures c.if-lacks_ids.false c.works.ensures.list in
    let is = plan_given log trans c.args.plan.now.items c.deref.result.now c.requires c.deref.ensures.0 in
    let few = c.filled_records.ensures.few trans is (plan_items_whole log trans c.deref.result.now is (ids_fit log (length trans.works) fit)) in
    let e = full_sectors c.record_sectors.result c.filled_records.result c.record_sectors.ensures in
    omega (arith, e, few)

pub returns-clause-wears : goal.returns-clause-wears
returns-clause-wears c =
    let log = c.args.held.now in
    let trans = c.args.trans.now in
    let fit = wants_none log c.works.result.now trans.works c.lacks_ids.result c.lacks_ids.ensures c.if-lacks_ids.false c.works.ensures.list in
    let is = plan_given log trans c.args.plan.now.items c.deref.result.now c.requires c.deref.ensures.0 in
    let whole = plan_items_whole log trans c.deref.result.now is (ids_fit log (length trans.works) fit) in
    let e = full_sectors c.record_sectors.result c.filled_records.result c.record_sectors.ensures
    ∙ ap (λ (n : ℕ). FULL_SECTORS * n) (plan_records log trans c.deref.result.now c.filled_records.result is (c.filled_records.ensures.records trans.blocks whole)) in
    wears_by_cycle log (commit_sectors log trans) (length trans.works) c.needs_last_cycle.result
    (subst (λ (n : ℕ). IsTrue c.needs_last_cycle.result ↔ NeedsLastCycle log.growing.last n) e c.needs_last_cycle.ensures) fit

pub returns-clause-few : goal.returns-clause-few
returns-clause-few c = λ none.
    let log = c.args.held.now in
    let trans = c.args.trans.now in
    let fit = wants_none log c.works.result.now trans.works c.lacks_ids.result c.lacks_ids.ensures c.if-lacks_ids.false c.works.ensures.list in
    let is = plan_given log trans c.args.plan.now.items c.deref.result.now c.requires c.deref.ensures.0 in
    let whole = plan_items_whole log trans c.deref.result.now is (ids_fit log (length trans.works) fit) in
    subst (λ (n : ℕ). n ≤ 12) (plan_records log trans c.deref.result.now c.filled_records.result is (c.filled_records.ensures.records trans.blocks whole))
    (c.filled_records.ensures.few trans is whole)
