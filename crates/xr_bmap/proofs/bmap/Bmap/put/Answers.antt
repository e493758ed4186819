-- An extent that agrees with all others is one more.
use Rattle.std.proofs.Common.{arith}
use Rattle.xr_bmap.proofs.ExtentLemmas.{change_step, inserted_extents}
use Rattle.xr_change.specs.TreeStepLaws.{insertion_is_gain}
use Rattle.xr_kinds.specs.Mapping.{mapping_form}
use Rattle.xr_tree.specs.SmallTreeLaws.{mapping_trees}
use Rattle.xr_bmap.proofs.bmap.Bmap.put.Goals as goal

pub insert-requires-clause-rules : goal.insert-requires-clause-rules
insert-requires-clause-rules c = inserted_extents _ c.requires.tree.records c.args.r c.requires.good c.requires.fits

pub insert-requires-clause-room : goal.insert-requires-clause-room
insert-requires-clause-room c =
    let small = mapping_trees c.args.over.now c.args.self.now.tree c.requires.tree in omega (arith, small.few_taken c.args.r, c.requires.room)

pub returns-clause-step : goal.returns-clause-step
returns-clause-step c =
    let small = mapping_trees c.args.over.now c.args.self.now.tree c.requires.tree in
    change_step _ _ _ _ _ 2 c.requires.tree c.insert.ensures.step (omega (arith, small.few_taken c.args.r, c.insert.ensures.room))

pub returns-clause-set : goal.returns-clause-set
returns-clause-set c = insertion_is_gain mapping_form _ _ _ _ c.args.r c.insert.ensures.step
