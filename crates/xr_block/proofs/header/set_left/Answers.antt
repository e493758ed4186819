use Rattle.std.proofs.Common.{◌∙◌, ap}
use Rattle.xr_block.specs.Edits.{sealed}
use Rattle.xr_block.proofs.LaidBlockLemmas.{left_block}
use Rattle.xr_block.proofs.header.set_left.Goals as goal

pub returns : goal.returns
returns g c = λ site place count items identified is.
    ap (sealed g.R.Record.form) c.link.ensures ∙ left_block g.R.Record.form site identified place count c.args.left items c.args.block.now c.told-block is
