-- A record is one less.
use Rattle.std.proofs.Common.{arith}
use Rattle.xr_change.specs.TreeStepLaws.{removal_is_loss}
use Rattle.xr_kinds.specs.Reference.{reference_form}
use Rattle.xr_kinds.specs.ReferenceLaws.{is_reference_form}
use Rattle.xr_refcount.proofs.RecordRuleLemmas.{tree_step}
use Rattle.xr_refcount.proofs.refcount.Refcount.remove.Goals as goal

pub returns-clause-step : goal.returns-clause-step
returns-clause-step c = tree_step _ _ _ _ _ 0 c.requires.tree c.remove.ensures.step (omega (arith, c.remove.ensures.room))

pub returns-clause-set : goal.returns-clause-set
returns-clause-set c = removal_is_loss reference_form is_reference_form _ _ _ _ _ c.requires.tree c.requires.held c.remove.ensures.step
