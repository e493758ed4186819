use Rattle.std.proofs.Common.{◌∙◌, get_or, sym, ap}
use Rattle.xr_pool.specs.Overlay.{block_at}
use Rattle.xr_kinds.specs.Spans.{meet}
use Rattle.xr_block.specs.Tree.{tree_records}
use Rattle.xr_block.specs.TreeBlock.{entries_in}
use Rattle.xr_lookup.proofs.ReachLemmas.{none_held}
use Rattle.xr_lookup.proofs.lookup.may_hold.Goals as goal

pub returns-in-Some : goal.returns-in-Some
returns-in-Some g c = λ apart d.
    let form = g.R.Record.form in
    let e = get_or (entries_in form (block_at c.args.over.now c.args.n)) c.args.k d in
    none_held form g.R.Reach.span_of g.met.R.Reach.by_runs c.args.wanted.now c.in-Some.r c.reach_of.result (tree_records form c.args.over.now e.child c.args.level)
    c.in-Some.is (c.reach_of.ensures d) (sym (c.meets.ensures.value ∙ ap (meet c.reach_of.result) c.run.ensures) ∙ apart)
