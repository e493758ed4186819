use Rattle.std.proofs.Common.{[], ◌∷◌, arith}
use Rattle.xr_change.proofs.WriteLemmas.{same_count, unmarked_few}
use Rattle.xr_change.proofs.SetLemmas.{replaced_valid}
use Rattle.xr_change.proofs.WholeTreeLemmas.{root_least, some_if, tree_after}
use Rattle.xr_change.proofs.replace.replace_in_draft.Goals as goal

pub replace_below-requires-clause-some : goal.replace_below-requires-clause-some
replace_below-requires-clause-some g c =
    some_if g.R.Record.form c.args.draft.now c.args.root.level c.args.root.block
    (omega (arith, root_least g.R.Record.form c.args.draft.now c.args.root.level c.args.root.block c.requires.tree))

pub replace_below-requires-clause-valid : goal.replace_below-requires-clause-valid
replace_below-requires-clause-valid g c =
    replaced_valid g.R.Record.form g.met.R.Record.is_form c.args.old.now c.args.new.now _ c.requires.held c.requires.rules

pub returns-clause-step : goal.returns-clause-step
returns-clause-step g c =
    let below = c.replace_below.ensures.changes in
    let after = tree_after g.R.Record.form c.args.draft.now c.args.root.level c.args.root.block c.requires.tree _ _ below c.requires.rules in
    record { tree = after.0; set = below.set; frame = after.1; changed = omega (arith, below.marks.few, unmarked_few c.args.draft.now (c.args.root.block ∷ [])) }

pub returns-clause-room : goal.returns-clause-room
returns-clause-room g c =
    let frame = (tree_after g.R.Record.form c.args.draft.now c.args.root.level c.args.root.block c.requires.tree _ _ c.replace_below.ensures.changes c.requires.rules).1 in
    same_count c.args.draft.now c.replace_below.new.draft c.replace_below.ensures.free frame.pool
