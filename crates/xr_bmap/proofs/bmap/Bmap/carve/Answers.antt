-- What is left of an extent is its first offsets, in its place, and those behind the part, which come back.
use Rattle.std.proofs.Common.{◌+◌, ◌∙◌}
use Rattle.xr_bmap.proofs.PartLemmas.{shortened_fits, rest_good}
use Rattle.xr_bmap.proofs.RangeLemmas.{carved_all, carved_rest}
use Rattle.xr_bmap.specs.SlotLaws.{known_slot, mapped_gained, valid_in}
use Rattle.xr_bmap.specs.Bmap.{slot_in}
use Rattle.xr_bmap.specs.Joins.{rest_of_extent}
use Rattle.xr_change.specs.TreeStepLaws.{tree_steps_follow}
use Rattle.xr_kinds.specs.Mapping.{mapping_form}
use Rattle.xr_bmap.proofs.bmap.Bmap.carve.Goals as goal

pub put-requires-clause-good : goal.put-requires-clause-good
put-requires-clause-good c =
    let whole = c.args.whole.now in
    rw c.rest_of_extent-rest.ensures
    (rest_good whole c.args.off c.args.len c.requires.part (valid_in _ c.requires.tree.records whole c.requires.held) (rw c.rest_of_extent-rest.ensures at c.if-rest-gt0.true))

pub put-requires-clause-fits : goal.put-requires-clause-fits
put-requires-clause-fits c =
    rw c.rest_of_extent-rest.ensures
    (shortened_fits _ c.requires.tree.records c.args.whole.now c.args.off c.args.len c.requires.held c.requires.part _ c.shorten.ensures.set
    (rw c.rest_of_extent-rest.ensures at c.if-rest-gt0.true))

pub returns-then-rest-gt0-clause-step : goal.returns-then-rest-gt0-clause-step
returns-then-rest-gt0-clause-step c = tree_steps_follow mapping_form _ _ _ _ _ _ 0 2 7 7 c.shorten.ensures.step c.put.ensures.step

pub returns-then-rest-gt0-clause-unmapped : goal.returns-then-rest-gt0-clause-unmapped
returns-then-rest-gt0-clause-unmapped c o =
    let whole = c.args.whole.now in
    mapped_gained _ _ c.shorten.ensures.step.tree.records c.put.ensures.step.tree.records o (rest_of_extent whole (c.args.off + c.args.len))
    (rw c.rest_of_extent-rest.ensures at c.put.ensures.set)
    ∙ carved_rest whole o (slot_in c.args.over.now c.args.self.now o) (known_slot _ c.requires.tree.records whole c.requires.held o) c.args.off c.args.len
    c.requires.part _ (c.shorten.ensures.unmapped o)

pub returns-else-rest-gt0-clause-unmapped : goal.returns-else-rest-gt0-clause-unmapped
returns-else-rest-gt0-clause-unmapped c o =
    let whole = c.args.whole.now in
    c.shorten.ensures.unmapped o
    ∙ carved_all whole o (slot_in c.args.over.now c.args.self.now o) c.args.off c.args.len c.requires.part (rw c.rest_of_extent-rest.ensures at c.if-rest-gt0.false)
