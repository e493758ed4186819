use Rattle.std.proofs.Common.{ℕ, List, sym, subst, refl, arith}
use Rattle.std.specs.List.{insert}
use Rattle.xr_block.specs.Edits.{IsLeafOf, sealed}
use Rattle.xr_block.proofs.LeafEditLemmas.{record_put}
use Rattle.xr_block.proofs.edit_leaf.insert_record.Goals as goal

pub returns : goal.returns
returns g c = λ site place records is.
    let form = g.R.Record.form in
    let split = c.split_at_mut-items in
    subst (λ (bytes : List ℕ). IsLeafOf form site place (insert records c.args.k c.args.added.now) (sealed form bytes)) (sym c.put_count.ensures)
    (record_put form g.met.R.Record.is_form site place records c.args.block.now c.told-block is c.header_size.result split.result.0.now split.result.1.now
    (record { starts = c.header_size.ensures; heads = split.ensures.front; rests = split.ensures.back })
    c.args.k c.count_of-count.result _ c.args.added.now c.insert_among.new.items c.count_of-count.ensures.count c.requires.place
    (omega (arith, c.requires.room, g.met.R.Record.numbers.same_leaf_max)) refl c.requires.valid c.insert_among.ensures)
