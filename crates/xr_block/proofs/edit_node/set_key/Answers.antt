use Rattle.std.proofs.Common.{[]}
use Rattle.xr_block.proofs.NodeEditLemmas.{entry_keyed}
use Rattle.xr_block.proofs.edit_node.set_key.Goals as goal

pub returns : goal.returns
returns g c = λ site place entries is.
    let split = c.split_at_mut-items in
    entry_keyed g.R.Record.form g.met.R.Record.is_form site place entries c.args.block.now c.told-block is c.header_size.result split.result.0.now split.result.1.now
    (record { starts = c.header_size.ensures; heads = split.ensures.front; rests = split.ensures.back })
    c.args.k c.args.key.now c.put_over.new.items (record { key = []; child = 0 }) c.requires.place c.requires.key c.put_over.ensures
