use Rattle.std.proofs.Common.{arith, refl, [], Ok}
use Rattle.std.proofs.lemmas.Result.{err_from_is_err_and}
use Rattle.xr_log.proofs.FillLemmas.{whole_at}
use Rattle.xr_log.proofs.TransactionPushLemmas.{items_end, items_fail, items_space, items_then, none_pushed}
use Rattle.xr_log.proofs.pushing.push_items.Goals as goal

pub loop-planned-init : goal.loop-planned-init
loop-planned-init g c = (none_pushed (g.D.Disk.view c.args.disk.now) c.args.held.now c.args.tid tt [] c.requires.up refl, c.requires.up)

pub push_item-requires-clause-up : goal.push_item-requires-clause-up
push_item-requires-clause-up g c = c.loop-planned.invariant.1

pub push_item-requires-clause-whole : goal.push_item-requires-clause-whole
push_item-requires-clause-whole g c =
    whole_at c.args.blocks.now c.args.plan.now c.loop-planned.planned-index _ c.loop-planned-test.true c.requires.whole

pub push_item-requires-clause-space : goal.push_item-requires-clause-space
push_item-requires-clause-space g c =
    items_space (g.D.Disk.view c.args.disk.now) (g.D.Disk.view c.loop-planned.disk) c.args.held.now c.loop-planned.held c.args.tid c.args.blocks.now
    c.args.plan.now c.loop-planned.planned-index _ tt c.loop-planned-test.true c.loop-planned.invariant.0 c.requires.space

pub returns-in_err-push_item : goal.returns-in_err-push_item
returns-in_err-push_item g c =
    let p = err_from_is_err_and c.from_residual.result c.from_residual.ensures.1 in
    rw (p.1, p.2) (items_fail (g.D.Disk.view c.args.disk.now) (g.D.Disk.view c.loop-planned.disk) (g.D.Disk.view c.push_item.new.disk) c.args.held.now c.loop-planned.held
    c.push_item.new.held c.args.tid c.args.blocks.now c.args.plan.now c.loop-planned.planned-index _ tt c.in_err-push_item.field-0.0
    c.loop-planned-test.true c.loop-planned.invariant.0 c.in_err-push_item.ensures)

pub loop-planned-preserved : goal.loop-planned-preserved
loop-planned-preserved g c = (
  items_then (g.D.Disk.view c.args.disk.now) (g.D.Disk.view c.loop-planned.disk) (g.D.Disk.view c.push_item.new.disk) c.args.held.now c.loop-planned.held
      c.push_item.new.held c.args.tid c.args.blocks.now c.args.plan.now c.loop-planned.planned-index _ tt
      (Ok tt) c.loop-planned-test.true c.loop-planned.invariant.0 c.in_ok-push_item.ensures,
  (c.in_ok-push_item.ensures 0 []).step.up,
)

pub returns : goal.returns
returns g c =
    items_end (g.D.Disk.view c.args.disk.now) (g.D.Disk.view c.loop-planned.disk) c.args.held.now c.loop-planned.held c.args.tid c.args.blocks.now c.args.plan.now
    c.loop-planned.planned-index _ (omega (arith, c.loop-planned-test.false)) c.loop-planned.invariant.0
