use Rattle.std.proofs.Common.{◌∙◌, ap, sym, arith, length}
use Rattle.xr_verify.proofs.EnterLemmas.{leaf_key, no_key, node_key}
use Rattle.xr_verify.proofs.enter.has_key.Goals as goal

pub returns-then-count_of-eq0 : goal.returns-then-count_of-eq0
returns-then-count_of-eq0 g c =
    let none = no_key g.R.Record.form c.args.over.now c.args.n c.block-block.result.now c.block-block.ensures c.args.level
    (sym c.count_of.ensures.count ∙ c.if-count_of-eq0.true) in
    (λ no. absurd cc, λ is. absurd (omega (arith, c.requires.long, ap length is, none, g.met.R.Record.is_form.low_some)))

pub returns-then-level-eq0 : goal.returns-then-level-eq0
returns-then-level-eq0 g c =
    let same = leaf_key g.R.Record.form c.args.over.now c.args.n c.block-block.result.now c.block-block.ensures c.args.level c.if-level-eq0.true in
    (λ good. c.is_key_of_leaf.ensures.0 good ∙ same, λ is. c.is_key_of_leaf.ensures.1 (is ∙ sym same))

pub returns-else-level-eq0 : goal.returns-else-level-eq0
returns-else-level-eq0 g c =
    let same = node_key g.R.Record.form c.args.over.now c.args.n c.block-block.result.now c.block-block.ensures c.args.level c.if-level-eq0.false in
    (λ good. c.is_key_of_node.ensures.0 good ∙ same, λ is. c.is_key_of_node.ensures.1 (is ∙ sym same))
