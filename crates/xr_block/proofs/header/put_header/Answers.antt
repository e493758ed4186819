use Rattle.xr_block.proofs.LaidBlockLemmas.{header_of}
use Rattle.xr_block.proofs.header.put_header.Goals as goal

pub returns : goal.returns
returns g c = λ site place names.
    header_of g.R.Record.form site place c.args.fields.now c.args.count _ _ _ _ names c.put_start.ensures c.put_links.ensures c.put_place.ensures c.put_owner.ensures
