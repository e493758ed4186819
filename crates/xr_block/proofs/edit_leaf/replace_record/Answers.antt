use Rattle.xr_block.proofs.LeafEditLemmas.{record_set}
use Rattle.xr_block.proofs.edit_leaf.replace_record.Goals as goal

pub returns : goal.returns
returns g c = λ site place records is.
    let split = c.split_at_mut-items in
    record_set g.R.Record.form g.met.R.Record.is_form site place records c.args.block.now c.told-block is c.header_size.result split.result.0.now split.result.1.now
    (record { starts = c.header_size.ensures; heads = split.ensures.front; rests = split.ensures.back })
    c.args.k c.args.other.now c.put_over.new.items c.requires.place c.requires.valid c.put_over.ensures
