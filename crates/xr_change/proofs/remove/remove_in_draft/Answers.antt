use Rattle.std.proofs.Common.{◌∙◌, Bool, List, [], ◌∷◌, length, ap, arith}
use Rattle.xr_pool.specs.Marks.{marked}
use Rattle.xr_change.proofs.WriteLemmas.{unmarked_few}
use Rattle.xr_change.proofs.WholeTreeLemmas.{removed_frame, split_rows, rules_after_removal, removed_some, root_least, two_if}
use Rattle.xr_change.proofs.remove.remove_in_draft.Goals as goal

pub remove_below-requires-clause-two : goal.remove_below-requires-clause-two
remove_below-requires-clause-two g c =
    two_if g.R.Record.form c.args.draft.now c.args.root.level c.args.root.block
    (root_least g.R.Record.form c.args.draft.now c.args.root.level c.args.root.block c.requires.tree)

pub shrink_root-requires-clause-rows : goal.shrink_root-requires-clause-rows
shrink_root-requires-clause-rows g c =
    split_rows g.R.Record.form c.args.draft.now c.args.root.level c.args.root.block c.requires.tree c.remove_below.new.draft c.args.r.now c.requires.held c.remove_below.ensures.changes

pub shrink_root-requires-clause-some : goal.shrink_root-requires-clause-some
shrink_root-requires-clause-some g c =
    removed_some g.R.Record.form c.args.draft.now c.args.root.level c.args.root.block c.requires.tree
    c.remove_below.new.draft c.args.r.now c.requires.held c.remove_below.ensures.changes

pub shrink_root-requires-clause-rules : goal.shrink_root-requires-clause-rules
shrink_root-requires-clause-rules g c =
    rules_after_removal g.R.Record.form c.args.draft.now c.args.root.level c.args.root.block c.requires.tree c.remove_below.new.draft c.args.r.now c.requires.held c.remove_below.ensures.changes

pub returns-clause-step : goal.returns-clause-step
returns-clause-step g c =
    let below = c.remove_below.ensures.changes in
    let marks = ap (λ (ms : List Bool). length (marked 0 ms)) c.shrink_root.ensures.changed in
    record {
      tree = c.shrink_root.ensures.tree;
      set = c.shrink_root.ensures.records ∙ below.set;
      frame = removed_frame g.R.Record.form c.args.draft.now c.args.root.level c.args.root.block c.requires.tree c.remove_below.new.draft c.args.r.now c.requires.held below
          c.shrink_root.new.draft c.shrink_root.result.block c.shrink_root.result.level c.shrink_root.ensures;
      changed = omega (arith, below.marks.few, marks, unmarked_few c.args.draft.now (c.args.root.block ∷ []));
    }
