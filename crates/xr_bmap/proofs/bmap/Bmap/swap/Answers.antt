-- An extent is in the place of another.
use Rattle.std.proofs.Common.{arith}
use Rattle.xr_bmap.proofs.ExtentLemmas.{change_step, replaced_extents}
use Rattle.xr_change.specs.TreeStepLaws.{replacement_is_swap}
use Rattle.xr_kinds.specs.Mapping.{mapping_form}
use Rattle.xr_kinds.specs.MappingLaws.{is_mapping_form}
use Rattle.xr_bmap.proofs.bmap.Bmap.swap.Goals as goal

pub replace-requires-clause-rules : goal.replace-requires-clause-rules
replace-requires-clause-rules c =
    replaced_extents _ c.requires.tree.records c.args.old.now c.args.new c.requires.held c.requires.good c.requires.fits c.requires.place

pub returns-clause-step : goal.returns-clause-step
returns-clause-step c = change_step _ _ _ _ _ 0 c.requires.tree c.replace.ensures.step (omega (arith, c.replace.ensures.room))

pub returns-clause-set : goal.returns-clause-set
returns-clause-set c =
    replacement_is_swap mapping_form is_mapping_form _ _ _ _ c.args.old.now c.args.new c.requires.tree c.requires.held c.replace.ensures.step
