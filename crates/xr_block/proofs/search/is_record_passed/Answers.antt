use Rattle.std.proofs.Common.{◌≡◌, ◌∙◌, get_or, ap, arith}
use Rattle.std.proofs.lemmas.Option.{slice_get-get_or}
use Rattle.xr_block.specs.Bounds.{is_before}
use Rattle.xr_block.specs.TreeBlock.{records_in}
use Rattle.xr_block.specs.LeafLaws.{record_read}
use Rattle.xr_block.proofs.search.is_record_passed.Goals as goal

pub returns-in-Some : goal.returns-in-Some
returns-in-Some g c = λ d.
    let form = g.R.Record.form in
    let records = records_in form c.args.block.now in
    let read = record_read form c.args.block.now c.args.k c.requires.leaf c.requires.within
    ∙ slice_get-get_or records c.args.k d (omega (arith, c.requires.leaf.counted)) in
    let same : c.in-Some.record ≡ get_or records c.args.k d = cc read in
    c.passes.ensures ∙ ap (is_before form c.args.bound.now) same

pub returns-in-None : goal.returns-in-None
returns-in-None g c = λ d.
    let form = g.R.Record.form in
    let records = records_in form c.args.block.now in
    let read = record_read form c.args.block.now c.args.k c.requires.leaf c.requires.within
    ∙ slice_get-get_or records c.args.k d (omega (arith, c.requires.leaf.counted)) in
    cc (read, c.in-None.ensures)
