use Rattle.std.proofs.Common.{ℕ, List, sym, subst, refl, arith}
use Rattle.std.specs.List.{insert}
use Rattle.xr_block.specs.Edits.{IsNodeOf, sealed}
use Rattle.xr_block.proofs.NodeEditLemmas.{entry_put}
use Rattle.xr_block.proofs.edit_node.insert_entry.Goals as goal

pub returns : goal.returns
returns g c = λ site place entries is.
    let form = g.R.Record.form in
    let split = c.split_at_mut-items in
    subst (λ (bytes : List ℕ). IsNodeOf form site place (insert entries c.args.k (record { key = c.args.key.now; child = c.args.child })) (sealed form bytes)) (sym c.put_count.ensures)
    (entry_put form g.met.R.Record.is_form site place entries c.args.block.now c.told-block is c.header_size.result split.result.0.now split.result.1.now
    (record { starts = c.header_size.ensures; heads = split.ensures.front; rests = split.ensures.back })
    c.args.k c.count_of-count.result _ c.args.key.now c.args.child c.insert_among.new.items c.count_of-count.ensures.count c.requires.place
    (omega (arith, c.requires.room, g.met.R.Record.numbers.same_node_max)) refl c.requires.key c.ranges.child.fits c.insert_among.ensures)
