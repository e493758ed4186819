use Rattle.std.proofs.Common.{◌∙◌, List, Ok, Err, refl, subst, sym}
use Rattle.std.specs.List.{AllByRecursion}
use Rattle.std.proofs.lemmas.Bool.{false≢true}
use Rattle.std.proofs.lemmas.Result.{err_from_is_err_and}
use Rattle.xr_commit.specs.LoggedItems.{Logged}
use Rattle.xr_scan.specs.LoggedEntries.{IsWholeItem}
use Rattle.xr_log.specs.CommitCalls.{logged_by}
use Rattle.xr_log.specs.Filling.{HasSpace, fill_of, filled_by}
use Rattle.xr_log.specs.TransactionItems.{logged_in}
use Rattle.xr_log.proofs.CommitLemmas.{commits_failed, commits_pushed, commits_worn, logged_as, may_push, planned_as, pushed_as}
use Rattle.xr_log.proofs.CommitPlanLemmas.{plan_whole}
use Rattle.xr_log.proofs.EnteredLemmas.{is_entered}
use Rattle.xr_log.proofs.committing.commit_held.Goals as goal

pub wears_out-requires : goal.wears_out-requires
wears_out-requires g c = record {
  may = c.requires.may;
  valid = c.plan_of-plan.ensures.valid;
  plan_is = planned_as c.args.held.now c.args.trans.now c.deref.result.now c.plan_of-plan.result.items c.plan_of-plan.result.items c.deref.ensures.value
      c.plan_of-plan.ensures.plan refl;
}

pub returns-then-wears_out-clause-commits : goal.returns-then-wears_out-clause-commits
returns-then-wears_out-clause-commits g c =
    commits_worn (g.D.Disk.view c.args.disk.now) c.args.held.now c.args.trans.now c.in_default.is (c.wears_out.ensures.wears.0 c.if-wears_out.true)

pub push_transaction-requires-clause-whole : goal.push_transaction-requires-clause-whole
push_transaction-requires-clause-whole g c =
    let log = c.args.held.now in
    let trans = c.args.trans.now in
    let p = may_push log trans c.in_default.is c.requires.may c.plan_of-plan.ensures.valid c.requires.room
    (λ wears. false≢true (sym c.if-wears_out.false ∙ c.wears_out.ensures.wears.1 wears)) (c.wears_out.ensures.few c.if-wears_out.false) in
    let same = logged_as log trans c.blocks-2.result.now c.deref-2.result.now c.blocks-2.ensures.list
    (planned_as log trans c.deref.result.now c.deref-2.result.now c.plan_of-plan.result.items c.deref.ensures.value c.plan_of-plan.ensures.plan c.deref-2.ensures.0) in
    subst (AllByRecursion IsWholeItem) (sym same) (plan_whole log trans p.valid p.may p.ids)

pub push_transaction-requires-clause-space : goal.push_transaction-requires-clause-space
push_transaction-requires-clause-space g c =
    let log = c.args.held.now in
    let trans = c.args.trans.now in
    let p = may_push log trans c.in_default.is c.requires.may c.plan_of-plan.ensures.valid c.requires.room
    (λ wears. false≢true (sym c.if-wears_out.false ∙ c.wears_out.ensures.wears.1 wears)) (c.wears_out.ensures.few c.if-wears_out.false) in
    let same = logged_as log trans c.blocks-2.result.now c.deref-2.result.now c.blocks-2.ensures.list
    (planned_as log trans c.deref.result.now c.deref-2.result.now c.plan_of-plan.result.items c.deref.ensures.value c.plan_of-plan.ensures.plan c.deref-2.ensures.0) in
    (p.limit, subst (λ (ls : List Logged). HasSpace p.limit log.growing.last (filled_by ls (fill_of log)).records) (sym same) p.space)

pub returns-in_err-push_transaction-clause-commits : goal.returns-in_err-push_transaction-clause-commits
returns-in_err-push_transaction-clause-commits g c =
    let log = c.args.held.now in
    let trans = c.args.trans.now in
    let p = may_push log trans c.in_default.is c.requires.may c.plan_of-plan.ensures.valid c.requires.room
    (λ wears. false≢true (sym c.if-wears_out.false ∙ c.wears_out.ensures.wears.1 wears)) (c.wears_out.ensures.few c.if-wears_out.false) in
    let same = logged_as log trans c.blocks-2.result.now c.deref-2.result.now c.blocks-2.ensures.list
    (planned_as log trans c.deref.result.now c.deref-2.result.now c.plan_of-plan.result.items c.deref.ensures.value c.plan_of-plan.ensures.plan c.deref-2.ensures.0) in
    let e = err_from_is_err_and c.from_residual.result c.from_residual.ensures.1 in
    rw (e.1, e.2) (commits_failed (g.D.Disk.view c.args.disk.now) (g.D.Disk.view c.push_transaction.new.disk) log c.push_transaction.new.held trans
    c.in_err-push_transaction.field-0.0 p
    (pushed_as (g.D.Disk.view c.args.disk.now) (g.D.Disk.view c.push_transaction.new.disk) log c.push_transaction.new.held
    (logged_in c.blocks-2.result.now c.deref-2.result.now) (logged_by log trans) (Err c.in_err-push_transaction.field-0.0) same
    c.in_err-push_transaction.ensures.pushes))

pub returns-clause-commits : goal.returns-clause-commits
returns-clause-commits g c =
    let log = c.args.held.now in
    let trans = c.args.trans.now in
    let p = may_push log trans c.in_default.is c.requires.may c.plan_of-plan.ensures.valid c.requires.room
    (λ wears. false≢true (sym c.if-wears_out.false ∙ c.wears_out.ensures.wears.1 wears)) (c.wears_out.ensures.few c.if-wears_out.false) in
    let same = logged_as log trans c.blocks-2.result.now c.deref-2.result.now c.blocks-2.ensures.list
    (planned_as log trans c.deref.result.now c.deref-2.result.now c.plan_of-plan.result.items c.deref.ensures.value c.plan_of-plan.ensures.plan c.deref-2.ensures.0) in
    let pushed = c.in_ok-push_transaction.ensures.pushes in
    commits_pushed (g.D.Disk.view c.args.disk.now) (g.D.Disk.view c.push_transaction.new.disk) log c.push_transaction.new.held c.enter.new.held trans c.enter.result p
    (pushed_as (g.D.Disk.view c.args.disk.now) (g.D.Disk.view c.push_transaction.new.disk) log c.push_transaction.new.held
    (logged_in c.blocks-2.result.now c.deref-2.result.now) (logged_by log trans) (Ok tt) same pushed)
    (is_entered trans log c.push_transaction.new.held c.enter.new.held c.enter.result pushed.step.same c.enter.ensures)
