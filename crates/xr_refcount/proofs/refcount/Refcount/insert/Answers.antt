-- A record that agrees with all others is one more.
use Rattle.std.proofs.Common.{arith}
use Rattle.xr_change.specs.TreeStepLaws.{insertion_is_gain}
use Rattle.xr_kinds.specs.Reference.{reference_form}
use Rattle.xr_refcount.proofs.RecordRuleLemmas.{insertion_rules, tree_step}
use Rattle.xr_tree.specs.SmallTreeLaws.{reference_trees}
use Rattle.xr_refcount.proofs.refcount.Refcount.insert.Goals as goal

pub insert-requires-clause-rules : goal.insert-requires-clause-rules
insert-requires-clause-rules c = insertion_rules _ c.requires.tree.records c.args.new c.requires.good c.requires.fits

pub insert-requires-clause-room : goal.insert-requires-clause-room
insert-requires-clause-room c =
    let small = reference_trees c.args.over.now c.args.self.now.tree c.requires.tree in omega (arith, small.few_taken c.args.new, c.requires.room)

pub returns-clause-step : goal.returns-clause-step
returns-clause-step c =
    let small = reference_trees c.args.over.now c.args.self.now.tree c.requires.tree in
    tree_step _ _ _ _ _ 2 c.requires.tree c.insert.ensures.step (omega (arith, small.few_taken c.args.new, c.insert.ensures.room))

pub returns-clause-set : goal.returns-clause-set
returns-clause-set c = insertion_is_gain reference_form _ _ _ _ _ c.insert.ensures.step
