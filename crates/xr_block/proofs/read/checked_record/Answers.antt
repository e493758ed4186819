use Rattle.std.proofs.Common.{◌∙◌, sym}
use Rattle.xr_block.specs.ItemCheckLaws.{held_record}
use Rattle.xr_block.proofs.read.checked_record.Goals as goal

pub returns-clause-value : goal.returns-clause-value
returns-clause-value g c =
    (held_record g.R.Record.form g.met.R.Record.is_form c.args.block.now c.args.k c.in-Some.record c.told-block c.fits-block c.requires.tested
    c.requires.within (sym c.record_at.ensures ∙ c.in-Some.is)).0

pub returns-clause-valid : goal.returns-clause-valid
returns-clause-valid g c =
    (held_record g.R.Record.form g.met.R.Record.is_form c.args.block.now c.args.k c.in-Some.record c.told-block c.fits-block c.requires.tested
    c.requires.within (sym c.record_at.ensures ∙ c.in-Some.is)).1
