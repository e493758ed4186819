-- An extent is one less.
use Rattle.std.proofs.Common.{arith}
use Rattle.xr_bmap.proofs.ExtentLemmas.{change_step}
use Rattle.xr_change.specs.TreeStepLaws.{removal_is_loss}
use Rattle.xr_kinds.specs.Mapping.{mapping_form}
use Rattle.xr_kinds.specs.MappingLaws.{is_mapping_form}
use Rattle.xr_bmap.proofs.bmap.Bmap.cut.Goals as goal

pub returns-clause-step : goal.returns-clause-step
returns-clause-step c = change_step _ _ _ _ _ 0 c.requires.tree c.remove.ensures.step (omega (arith, c.remove.ensures.room))

pub returns-clause-set : goal.returns-clause-set
returns-clause-set c = removal_is_loss mapping_form is_mapping_form _ _ _ _ c.args.r.now c.requires.tree c.requires.held c.remove.ensures.step
