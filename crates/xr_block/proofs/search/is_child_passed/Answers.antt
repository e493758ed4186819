use Rattle.std.proofs.Common.{◌∙◌, sym, ap}
use Rattle.xr_block.specs.Bounds.{entry_is_before, key_is_before}
use Rattle.xr_block.specs.NodeEntryLaws.{entry_read}
use Rattle.xr_block.proofs.search.is_child_passed.Goals as goal

pub returns : goal.returns
returns g c = λ d.
    let form = g.R.Record.form in
    c.passes_key.ensures ∙ ap (key_is_before form c.args.bound.now) c.low_key_at.ensures.value
    ∙ ap (entry_is_before form c.args.bound.now) (sym (entry_read form c.args.block.now c.args.k d c.requires.within))
