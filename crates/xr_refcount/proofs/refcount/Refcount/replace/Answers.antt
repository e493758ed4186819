-- A record is in the place of one of its kind that it meets.
use Rattle.std.proofs.Common.{arith}
use Rattle.xr_change.specs.TreeStepLaws.{replacement_is_swap}
use Rattle.xr_kinds.specs.Reference.{reference_form}
use Rattle.xr_kinds.specs.ReferenceLaws.{is_reference_form}
use Rattle.xr_refcount.proofs.RecordRuleLemmas.{replacement_rules, tree_step}
use Rattle.xr_refcount.proofs.refcount.Refcount.replace.Goals as goal

pub replace-requires-clause-rules : goal.replace-requires-clause-rules
replace-requires-clause-rules c =
    replacement_rules _ c.requires.tree.records c.args.old.now c.args.new c.requires.held c.requires.good c.requires.kind c.requires.near c.requires.fits

pub returns-clause-step : goal.returns-clause-step
returns-clause-step c = tree_step _ _ _ _ _ 0 c.requires.tree c.replace.ensures.step (omega (arith, c.replace.ensures.room))

pub returns-clause-set : goal.returns-clause-set
returns-clause-set c =
    replacement_is_swap reference_form is_reference_form _ _ _ _ _ _ c.requires.tree c.requires.held c.replace.ensures.step
