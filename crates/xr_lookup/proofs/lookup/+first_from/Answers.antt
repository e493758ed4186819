use Rattle.std.proofs.Common.{◌∙◌, ◌-◌, ℕ, drop, sym, ap, arith}
use Rattle.std.specs.List.{find, flat_map}
use Rattle.xr_lookup.specs.Lookup.{is_wanted}
use Rattle.xr_pool.specs.Overlay.{block_at}
use Rattle.xr_block.specs.Tree.{tree_records}
use Rattle.xr_block.specs.TreeBlock.{Entry, entries_in}
use Rattle.xr_lookup.proofs.DescentLemmas.{after_in_node, found_after, found_under, nothing_under}
use Rattle.xr_lookup.proofs.lookup.+first_from.Goals as goal

pub loop-k-init : goal.loop-k-init
loop-k-init g t c =
    let form = g.R.Record.form in
    let b = c.args.over.now in
    ap (λ (k : ℕ). find (is_wanted form c.args.wanted.now) (flat_map (λ (e : Entry). tree_records form b e.child (c.args.level - 1)) (drop k (entries_in form (block_at b c.args.n)))))
    c.saturating_sub-start.ensures
    ∙ after_in_node form g.met.R.Record.is_form b c.args.level (c.args.level - 1) c.args.n (omega arith) c.requires c.args.wanted.now c.children_before.result
    c.children_before.ensures

pub returns-then-is_some : goal.returns-then-is_some
returns-then-is_some g t c =
    found_under g.R.Record.form g.met.R.Record.is_form c.args.over.now c.args.level (c.args.level - 1) c.args.n (omega arith) c.requires c.args.wanted.now c.loop-k.k
    c.child_of-child.result c.first_from-found.result (omega arith) c.child_of-child.ensures.child c.first_from-found.ensures (sym c.is_some.ensures ∙ c.if-is_some.true)
    ∙ c.loop-k.invariant

pub loop-k-preserved : goal.loop-k-preserved
loop-k-preserved g t c =
    found_after g.R.Record.form g.met.R.Record.is_form c.args.over.now c.args.level (c.args.level - 1) c.args.n (omega arith) c.requires c.args.wanted.now c.loop-k.k
    c.child_of-child.result c.first_from-found.result (omega arith) c.child_of-child.ensures.child c.first_from-found.ensures (sym c.is_some.ensures ∙ c.if-is_some.false)
    ∙ c.loop-k.invariant

pub loop-k-preserved-then-not-may_hold : goal.loop-k-preserved-then-not-may_hold
loop-k-preserved-then-not-may_hold g t c =
    nothing_under g.R.Record.form g.met.R.Record.is_form c.args.over.now c.args.level (c.args.level - 1) c.args.n (omega arith) c.requires c.args.wanted.now c.loop-k.k
    (omega arith) (c.may_hold.ensures c.if-not-may_hold.true) ∙ c.loop-k.invariant
