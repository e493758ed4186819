use Rattle.std.proofs.Common.{◌∙◌, inl, inr, refl, ◌+◌, arith}
use Rattle.xr_pool.specs.Overlay.{block_at}
use Rattle.xr_change.proofs.BlockInTreeLemmas.{in_pool, is_under, node_in, node_items}
use Rattle.xr_change.proofs.FullPathLemmas.{passed, path_first, path_second}
use Rattle.xr_block.specs.DescentLaws.{node_few}
use Rattle.xr_block.specs.NodeEntryLaws.{length-entries}
use Rattle.xr_change.proofs.path.path_half.Goals as goal

pub block-requires : goal.block-requires
block-requires g c = in_pool g.R.Record.form c.args.draft.now (c.args.level + 1) c.args.n c.requires.here

pub overflow_add-next : goal.overflow_add-next
overflow_add-next g c =
    let form = g.R.Record.form in
    let few = node_few form g.met.R.Record.is_form c.args.draft.now (c.args.level + 1) c.args.level c.args.n (omega arith)
    (is_under form c.args.draft.now (c.args.level + 1) c.args.n c.requires.here) in
    let laws = g.met.R.Record.is_form in
    search (arith, few, laws.node_few, c.requires.within, node_items form c.args.draft.now c.args.level c.args.n, length-entries form (block_at c.args.draft.now c.args.n))

pub low_key_at-requires : goal.low_key_at-requires
low_key_at-requires g c =
    let form = g.R.Record.form in
    let few = node_few form g.met.R.Record.is_form c.args.draft.now (c.args.level + 1) c.args.level c.args.n (omega arith)
    (is_under form c.args.draft.now (c.args.level + 1) c.args.n c.requires.here) in
    omega (arith, few, g.met.R.Record.numbers.same_node_max, c.requires.within, node_items form c.args.draft.now c.args.level c.args.n, length-entries form (block_at c.args.draft.now c.args.n))

pub returns-then-passes_key : goal.returns-then-passes_key
returns-then-passes_key g c =
    let form = g.R.Record.form in
    let over = c.args.draft.now in
    let items = node_items form over c.args.level c.args.n in
    let test = passed form over c.args.n (c.args.k + 1) c.args.r.now c.block.ensures c.low_key_at.ensures.value c.passes_key.ensures
    (omega (arith, items, c.requires.within, length-entries form (block_at over c.args.n))) in
    record {
      path = path_second form g.met.R.Record.is_form over c.args.level c.args.n (node_in form over c.args.level c.args.n c.requires.here) c.args.r.now c.args.k
          (omega (arith, items, c.requires.within)) (λ d. test d ∙ c.if-passes_key.true) c.requires.after;
      first = λ d same. absurd (omega (arith, same));
      second = λ d same. test d ∙ c.if-passes_key.true;
      either = inr refl;
    }

pub returns-else-passes_key : goal.returns-else-passes_key
returns-else-passes_key g c =
    let form = g.R.Record.form in
    let over = c.args.draft.now in
    let items = node_items form over c.args.level c.args.n in
    let test = passed form over c.args.n (c.args.k + 1) c.args.r.now c.block.ensures c.low_key_at.ensures.value c.passes_key.ensures
    (omega (arith, items, c.requires.within, length-entries form (block_at over c.args.n))) in
    record {
      path = path_first form g.met.R.Record.is_form over c.args.level c.args.n (node_in form over c.args.level c.args.n c.requires.here) c.args.r.now c.args.k
          (omega (arith, items, c.requires.within)) (λ d. test d ∙ c.if-passes_key.false) c.requires.before;
      first = λ d same. test d ∙ c.if-passes_key.false;
      second = λ d same. absurd (omega (arith, same));
      either = inl refl;
    }
