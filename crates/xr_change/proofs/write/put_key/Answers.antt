use Rattle.xr_change.proofs.RowItemLemmas.{key_by}
use Rattle.xr_change.proofs.write.put_key.Goals as goal

pub returns-then-level-eq0 : goal.returns-then-level-eq0
returns-then-level-eq0 g c = λ n at is. key_by g.R.Record.form c.args.level n at _ _ is (λ leaf. c.put_key_of_leaf.ensures) (λ node. absurd (node c.if-level-eq0.true))

pub returns-else-level-eq0 : goal.returns-else-level-eq0
returns-else-level-eq0 g c = λ n at is. key_by g.R.Record.form c.args.level n at _ _ is (λ leaf. absurd (c.if-level-eq0.false leaf)) (λ node. c.put_key_of_node.ensures)
