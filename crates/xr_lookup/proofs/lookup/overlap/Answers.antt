use Rattle.std.proofs.Common.{Some, sym, subst}
use Rattle.xr_lookup.specs.Lookup.{FindsLeast, is_wanted}
use Rattle.xr_block.specs.Trees.{records_of_tree}
use Rattle.xr_lookup.proofs.FoundLemmas.{least_found, overlaps_is}
use Rattle.xr_lookup.proofs.lookup.overlap.Goals as goal

pub returns : goal.returns
returns g c =
    let form = g.R.Record.form in
    let records = records_of_tree form c.args.over.now c.args.root in
    let test = is_wanted form (record { from = c.bound_after.result; meeting = Some c.args.with.now }) in
    subst (λ wanted. FindsLeast form records wanted c.first_from.result) (overlaps_is form c.args.with.now c.args.after c.bound_after.result c.bound_after.ensures)
    (subst (FindsLeast form records test) (sym c.first_from.ensures)
    (least_found form g.met.R.Record.is_form test records c.requires.tree.records.ascend))
