use Rattle.std.proofs.Common.{◌-◌, arith}
use Rattle.xr_block.specs.ItemCheckLaws.{records_count}
use Rattle.xr_verify.proofs.LastLemmas.{last_is, no_last}
use Rattle.xr_block.specs.TreeBlock.{records_in}
use Rattle.xr_verify.proofs.passed.last_record.Goals as goal

pub returns-then-count-eq0 : goal.returns-then-count-eq0
returns-then-count-eq0 g c =
    let form = g.R.Record.form in
    let counted = records_count form g.met.R.Record.is_form c.args.block.now c.told-block c.fits-block c.requires in
    no_last c.args.before (records_in form c.args.block.now) (omega (arith, counted, c.count_of-count.ensures.count, c.if-count-eq0.true))

pub returns-else-count-eq0 : goal.returns-else-count-eq0
returns-else-count-eq0 g c =
    let form = g.R.Record.form in
    let counted = records_count form g.met.R.Record.is_form c.args.block.now c.told-block c.fits-block c.requires in
    last_is c.args.before (records_in form c.args.block.now) (c.count_of-count.result - 1) c.checked_record.result
    (omega (arith, counted, c.count_of-count.ensures.count, c.if-count-eq0.false)) c.checked_record.ensures.value
