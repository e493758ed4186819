use Rattle.std.proofs.Common.{◌≡◌, ◌-◌, suc, arith}
use Rattle.xr_change.proofs.StepLemmas.{inserts_above, may_update_key}
use Rattle.xr_change.specs.Sets.{inserted}
use Rattle.xr_change.proofs.insert.+insert_below.Goals as goal

pub returns-then-level-eq0 : goal.returns-then-level-eq0
returns-then-level-eq0 g t c = rw c.if-level-eq0.true c.insert_in_leaf.ensures

pub update_key-requires : goal.update_key-requires
update_key-requires g t c =
    let form = g.R.Record.form in
    may_update_key form g.met.R.Record.is_form c.args.draft.now c.step_down-step.new.draft c.insert_below.new.draft 0
    (c.args.level - 1) c.args.n c.step_down-step.result.place c.step_down-step.result.child
    (inserted form.order c.args.r.now) c.step_down-step.ensures.path.path c.step_down-step.ensures.child c.insert_below.ensures.changes

pub returns : goal.returns
returns g t c =
    let form = g.R.Record.form in
    let up : c.args.level ≡ suc (c.args.level - 1) = omega (arith, c.if-level-eq0.false) in
    rw up (inserts_above form g.met.R.Record.is_form c.args.draft.now c.step_down-step.new.draft c.insert_below.new.draft
    (c.args.level - 1) c.args.n c.step_down-step.result.place c.step_down-step.result.child
    c.step_down-step.ensures.child c.is_known.ensures c.update_key.new.draft c.update_key.ensures.only c.update_key.ensures.free c.update_key.ensures.marks c.update_key.ensures.node
    c.args.r.now c.step_down-step.ensures.path c.insert_below.ensures)
