use Rattle.std.proofs.Common.{◌∙◌, ◌<◌, sym, arith, length, map}
use Rattle.xr_block.specs.ItemCheckLaws.{records_count}
use Rattle.xr_block.specs.KeyLaws.{records_key, checked_key}
use Rattle.xr_block.specs.Rows.{greatest_key, key_of_records}
use Rattle.xr_block.specs.TreeBlock.{records_in}
use Rattle.xr_block.proofs.key.is_key_of_leaf.Goals as goal

pub returns : goal.returns
returns g c =
    let form = g.R.Record.form in
    let laws = g.met.R.Record.is_form in
    let same = g.met.R.Record.numbers.same_low in
    let records = records_in form c.args.block.now in
    let counted = records_count form laws c.args.block.now c.told-block c.fits-block c.requires.tested in
    let some : 0 < length records = omega (arith, counted, c.requires.some) in
    checked_key c.both.result c.is_low-low.result c.is_greatest-high.result c.args.key.now (form.low_of c.checked_record.result)
    (greatest_key (map form.high_of records)) (key_of_records form records) c.LOW.result c.LOW-2.result form.low
    (c.LOW.ensures ∙ sym same) (c.LOW-2.ensures ∙ sym same) (laws.low_sized c.checked_record.result)
    (records_key form records c.checked_record.result some c.checked_record.ensures.value) c.is_low-low.ensures c.is_greatest-high.ensures c.both.ensures
