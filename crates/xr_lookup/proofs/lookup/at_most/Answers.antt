use Rattle.std.proofs.Common.{sym, subst}
use Rattle.xr_lookup.specs.Lookup.{FindsGreatest, up_to}
use Rattle.xr_block.specs.Trees.{records_of_tree}
use Rattle.xr_lookup.proofs.FoundLemmas.{greatest_found}
use Rattle.xr_lookup.proofs.lookup.at_most.Goals as goal

pub returns : goal.returns
returns g c =
    let form = g.R.Record.form in
    let records = records_of_tree form c.args.over.now c.args.root in
    subst (FindsGreatest form records (up_to form c.args.r.now)) (sym c.last_before.ensures)
    (greatest_found form g.met.R.Record.is_form (up_to form c.args.r.now) records c.requires.records.ascend)
