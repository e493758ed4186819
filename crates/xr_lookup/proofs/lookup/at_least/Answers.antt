use Rattle.std.proofs.Common.{sym, subst}
use Rattle.xr_lookup.specs.Lookup.{FindsLeast, from}
use Rattle.xr_block.specs.Trees.{records_of_tree}
use Rattle.xr_lookup.proofs.FoundLemmas.{least_found}
use Rattle.xr_lookup.proofs.lookup.at_least.Goals as goal

pub returns : goal.returns
returns g c =
    let form = g.R.Record.form in
    let records = records_of_tree form c.args.over.now c.args.root in
    subst (FindsLeast form records (from form c.args.r.now)) (sym c.first_from.ensures)
    (least_found form g.met.R.Record.is_form (from form c.args.r.now) records c.requires.records.ascend)
