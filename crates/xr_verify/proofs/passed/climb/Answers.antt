use Rattle.std.proofs.Common.{◌∙◌, ◌≤◌, length, sym, refl, arith}
use Rattle.xr_block.specs.ItemCheckLaws.{records_count}
use Rattle.xr_verify.proofs.PassLemmas.{climbed, climbs_on}
use Rattle.xr_block.specs.TreeBlock.{records_in}
use Rattle.xr_verify.proofs.passed.climb.Goals as goal

pub returns-then-not-is_above : goal.returns-then-not-is_above
returns-then-not-is_above g c =
    let form = g.R.Record.form in
    let records = records_in form c.args.block.now in
    let counted = records_count form g.met.R.Record.is_form c.args.block.now c.told-block c.fits-block c.requires in
    let on = climbs_on form c.loop-k.before records c.loop-k.k c.checked_record-record.result (omega (arith, counted, c.count_of-k-end.ensures.count, c.loop-k-test.true))
    c.checked_record-record.ensures.value in
    (λ no. absurd cc, λ climb. sym c.if-not-is_above.true ∙ c.is_above.ensures.1 (on.0 (c.loop-k.invariant.0 climb)).0)

pub loop-k-preserved : goal.loop-k-preserved
loop-k-preserved g c =
    let form = g.R.Record.form in
    let records = records_in form c.args.block.now in
    let counted = records_count form g.met.R.Record.is_form c.args.block.now c.told-block c.fits-block c.requires in
    let on = climbs_on form c.loop-k.before records c.loop-k.k c.checked_record-record.result (omega (arith, counted, c.count_of-k-end.ensures.count, c.loop-k-test.true))
    c.checked_record-record.ensures.value in
    (λ climb. (on.0 (c.loop-k.invariant.0 climb)).1, λ rest. c.loop-k.invariant.1 (on.1 (c.is_above.ensures.0 c.if-not-is_above.false, rest)))

pub returns : goal.returns
returns g c =
    let form = g.R.Record.form in
    let records = records_in form c.args.block.now in
    let counted = records_count form g.met.R.Record.is_form c.args.block.now c.told-block c.fits-block c.requires in
    let past : length records ≤ c.loop-k.k = omega (arith, counted, c.count_of-k-end.ensures.count, c.loop-k-test.false) in
    (λ yes. c.loop-k.invariant.1 (climbed form c.loop-k.before records c.loop-k.k past), λ climb. refl)
