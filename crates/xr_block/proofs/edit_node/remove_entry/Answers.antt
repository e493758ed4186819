use Rattle.std.proofs.Common.{ℕ, List, sym, subst, refl}
use Rattle.std.specs.List.{remove}
use Rattle.xr_block.specs.Edits.{IsNodeOf, sealed}
use Rattle.xr_block.proofs.NodeEditLemmas.{entry_removed}
use Rattle.xr_block.proofs.edit_node.remove_entry.Goals as goal

pub returns : goal.returns
returns g c = λ site place entries is.
    let form = g.R.Record.form in
    let split = c.split_at_mut-items in
    subst (λ (bytes : List ℕ). IsNodeOf form site place (remove entries c.args.k) (sealed form bytes)) (sym c.put_count.ensures)
    (entry_removed form g.met.R.Record.is_form site place entries c.args.block.now c.told-block is c.header_size.result split.result.0.now split.result.1.now
    (record { starts = c.header_size.ensures; heads = split.ensures.front; rests = split.ensures.back })
    c.args.k c.count_of-count.result _ c.remove_among.new.items c.count_of-count.ensures.count c.requires.place refl c.remove_among.ensures)
