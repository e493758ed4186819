use Rattle.std.proofs.Common.{◌++◌, List, ℕ, sym, ap, ◌∙◌, arith}
use Rattle.xr_block.specs.TreeBlock.{records_in}
use Rattle.xr_block.specs.ItemCheckLaws.{records_count}
use Rattle.xr_block.specs.KeyLaws.{records_key}
use Rattle.xr_block.proofs.put_key.put_key_of_leaf.Goals as goal

pub returns : goal.returns
returns g c =
    let form = g.R.Record.form in
    let block = c.args.block.now in
    let records = records_in form block in
    let counted = records_count form g.met.R.Record.is_form block c.told-block c.fits-block c.requires.tested in
    ap (λ (xs : List ℕ). xs ++ c.put_greatest.new.out) c.put_low.ensures
    ∙ ap (λ (xs : List ℕ). form.low_of c.checked_record.result ++ xs) c.put_greatest.ensures
    ∙ sym (records_key form records c.checked_record.result (omega (arith, counted, c.requires.some)) c.checked_record.ensures.value)
