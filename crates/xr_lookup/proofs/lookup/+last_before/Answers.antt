use Rattle.std.proofs.Common.{◌∙◌, ◌-◌, arith}
use Rattle.xr_lookup.proofs.DescentLemmas.{last_in_child, none_in_node}
use Rattle.xr_lookup.proofs.lookup.+last_before.Goals as goal

pub returns-in_err-k : goal.returns-in_err-k
returns-in_err-k g t c =
    c.from_residual.ensures
    ∙ none_in_node g.R.Record.form g.met.R.Record.is_form c.args.over.now c.args.level (c.args.level - 1) c.args.n (omega arith) c.requires c.args.bound.now
    c.children_before.result c.children_before.ensures (omega arith)

pub returns : goal.returns
returns g t c =
    c.last_before.ensures
    ∙ last_in_child g.R.Record.form g.met.R.Record.is_form c.args.over.now c.args.level (c.args.level - 1) c.args.n (omega arith) c.requires c.args.bound.now
    c.children_before.result c.in_ok-k.k c.child_of.result c.children_before.ensures (omega arith) c.child_of.ensures.child
