use Rattle.std.proofs.Common.{◌∙◌, arith}
use Rattle.xr_lookup.proofs.DescentLemmas.{last_in_leaf, none_in_leaf}
use Rattle.xr_lookup.proofs.lookup.last_in_leaf.Goals as goal

pub returns-in_err-k : goal.returns-in_err-k
returns-in_err-k g c =
    c.from_residual.ensures
    ∙ none_in_leaf g.R.Record.form c.args.over.now c.args.n c.args.bound.now c.records_before.result c.records_before.ensures (omega arith)

pub returns : goal.returns
returns g c =
    c.record_of.ensures
    ∙ last_in_leaf g.R.Record.form c.args.over.now c.args.n c.args.bound.now c.records_before.result c.in_ok-k.k c.records_before.ensures (omega arith)
