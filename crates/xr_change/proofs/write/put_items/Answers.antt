use Rattle.xr_change.proofs.RowItemLemmas.{gathers_by}
use Rattle.xr_change.proofs.write.put_items.Goals as goal

pub returns-then-level-eq0 : goal.returns-then-level-eq0
returns-then-level-eq0 g c = λ site place one other xs ys names.
    gathers_by g.R.Record.form c.args.level site _ _ _ _ _ place (λ leaf first second us vs. c.gather_leaf.ensures site place first second us vs names)
    (λ node. absurd (node c.if-level-eq0.true)) one other xs ys

pub returns-else-level-eq0 : goal.returns-else-level-eq0
returns-else-level-eq0 g c = λ site place one other xs ys names.
    gathers_by g.R.Record.form c.args.level site _ _ _ _ _ place (λ leaf. absurd (c.if-level-eq0.false leaf))
    (λ node first second us vs. c.gather_node.ensures site place first second us vs names) one other xs ys
