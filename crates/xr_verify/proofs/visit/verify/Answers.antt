use Rattle.xr_block.specs.Trees.{blocks_of_tree}
use Rattle.xr_verify.proofs.WholeTreeLemmas.{marked_of, others_of}
use Rattle.xr_verify.proofs.visit.verify.Goals as goal

pub returns-clause-marked : goal.returns-clause-marked
returns-clause-marked g c = λ ok.
    let h = c.visit_root.ensures.marked ok in
    let blocks = blocks_of_tree g.R.Record.form c.args.over.now c.args.root in
    record { these = marked_of c.args.seen.now blocks c.visit_root.new.seen h; others = others_of c.args.seen.now blocks c.visit_root.new.seen h }
