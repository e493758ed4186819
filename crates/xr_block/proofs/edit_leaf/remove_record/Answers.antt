use Rattle.std.proofs.Common.{ℕ, List, sym, subst, refl}
use Rattle.std.specs.List.{remove}
use Rattle.xr_block.specs.Edits.{IsLeafOf, sealed}
use Rattle.xr_block.proofs.LeafEditLemmas.{record_removed}
use Rattle.xr_block.proofs.edit_leaf.remove_record.Goals as goal

pub returns : goal.returns
returns g c = λ site place records is.
    let form = g.R.Record.form in
    let split = c.split_at_mut-items in
    subst (λ (bytes : List ℕ). IsLeafOf form site place (remove records c.args.k) (sealed form bytes)) (sym c.put_count.ensures)
    (record_removed form g.met.R.Record.is_form site place records c.args.block.now c.told-block is c.header_size.result split.result.0.now split.result.1.now
    (record { starts = c.header_size.ensures; heads = split.ensures.front; rests = split.ensures.back })
    c.args.k c.count_of-count.result _ c.remove_among.new.items c.count_of-count.ensures.count c.requires.place refl c.remove_among.ensures)
