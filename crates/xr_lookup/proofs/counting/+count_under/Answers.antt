use Rattle.std.proofs.Common.{◌∙◌, ◌-◌, arith, zero-add}
use Rattle.xr_lookup.proofs.CountLemmas.{all_after, count_after, in_leaf, next_after}
use Rattle.xr_lookup.proofs.counting.+count_under.Goals as goal

pub overflow_cast-result : goal.overflow_cast-result
overflow_cast-result g t c =
    let all = in_leaf g.R.Record.form c.args.over.now c.args.level c.args.n c.record_count.result (omega arith) c.record_count.ensures in
    omega (arith, all, c.requires.few)

pub returns-then-level-eq0 : goal.returns-then-level-eq0
returns-then-level-eq0 g t c =
    in_leaf g.R.Record.form c.args.over.now c.args.level c.args.n c.record_count.result (omega arith) c.record_count.ensures

pub loop-k-init : goal.loop-k-init
loop-k-init g t c =
    zero-add (count_after g.R.Record.form c.args.over.now (c.args.level - 1) c.args.n 0)
    ∙ all_after g.R.Record.form c.args.over.now (c.args.level - 1) c.args.n g.met.R.Record.is_form c.args.level (omega arith) c.requires.under

pub count_under-records-requires : goal.count_under-records-requires
count_under-records-requires g t c κs within =
    let next = next_after g.R.Record.form c.args.over.now (c.args.level - 1) c.args.n c.loop-k.k c.child_of-child.result (omega arith) c.child_of-child.ensures.child in
    (omega arith, (within, (c.child_of-child.ensures.under, omega (arith, next, c.loop-k.invariant, c.requires.few))))

pub overflow_add-records : goal.overflow_add-records
overflow_add-records g t c =
    let next = next_after g.R.Record.form c.args.over.now (c.args.level - 1) c.args.n c.loop-k.k c.child_of-child.result (omega arith) c.child_of-child.ensures.child in
    omega (arith, next, c.loop-k.invariant, c.count_under-records.ensures, c.requires.few)

pub loop-k-preserved : goal.loop-k-preserved
loop-k-preserved g t c =
    let next = next_after g.R.Record.form c.args.over.now (c.args.level - 1) c.args.n c.loop-k.k c.child_of-child.result (omega arith) c.child_of-child.ensures.child in
    omega (arith, next, c.loop-k.invariant, c.count_under-records.ensures)
