use Rattle.std.proofs.Common.{◌∙◌, sym}
use Rattle.xr_block.specs.ItemCheckLaws.{records_count}
use Rattle.xr_block.proofs.read.record_count.Goals as goal

pub returns : goal.returns
returns g c = c.count_of.ensures.count ∙ sym (records_count g.R.Record.form g.met.R.Record.is_form c.args.block.now c.told-block c.fits-block c.requires)
