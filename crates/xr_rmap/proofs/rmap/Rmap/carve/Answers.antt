-- What is left of a record is its first blocks, in its place, and those behind the part, which come back.
use Rattle.xr_change.specs.TreeStepLaws.{tree_steps_follow}
use Rattle.xr_kinds.specs.Reverse.{reverse_form}
use Rattle.xr_rmap.proofs.PairSetLemmas.{none_behind, put_back, rest_fits}
use Rattle.xr_rmap.specs.Rmap.{IsOwnerRecord}
use Rattle.xr_rmap.proofs.rmap.Rmap.carve.Goals as goal

pub put-requires-clause-fits : goal.put-requires-clause-fits
put-requires-clause-fits c =
    rw c.rest_after-rest.ensures
    (rest_fits _ c.requires.tree.records c.args.whole.now c.args.part.now c.requires.held c.requires.part _ c.shorten.ensures.set
    (rw c.rest_after-rest.ensures at c.if-rest-gt0.true))

pub returns-then-rest-gt0-clause-step : goal.returns-then-rest-gt0-clause-step
returns-then-rest-gt0-clause-step c = tree_steps_follow reverse_form _ _ _ _ _ _ 0 3 10 10 c.shorten.ensures.step c.put.ensures.step

pub returns-then-rest-gt0-clause-removed : goal.returns-then-rest-gt0-clause-removed
returns-then-rest-gt0-clause-removed c =
    put_back _ c.requires.tree.records c.args.whole.now c.args.part.now c.requires.held c.requires.part _ c.shorten.ensures.set
    (IsOwnerRecord c.put.new.over c.put.new.self) (rw c.rest_after-rest.ensures at c.if-rest-gt0.true) (rw c.rest_after-rest.ensures at c.put.ensures.set)

pub returns-else-rest-gt0-clause-removed : goal.returns-else-rest-gt0-clause-removed
returns-else-rest-gt0-clause-removed c =
    none_behind _ c.requires.tree.records c.args.whole.now c.args.part.now c.requires.held c.requires.part _ c.shorten.ensures.set
    (rw c.rest_after-rest.ensures at c.if-rest-gt0.false)
