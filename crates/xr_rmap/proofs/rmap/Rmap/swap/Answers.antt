-- A record is in the place of another.
use Rattle.std.proofs.Common.{arith}
use Rattle.xr_change.specs.SetLaws.{replaced_length}
use Rattle.xr_change.specs.TreeStepLaws.{replacement_is_swap}
use Rattle.xr_kinds.specs.Reverse.{reverse_form}
use Rattle.xr_kinds.specs.ReverseLaws.{is_reverse_form}
use Rattle.xr_rmap.proofs.RecordLemmas.{change_step, replaced_owners}
use Rattle.xr_rmap.specs.Rmap.{owner_records}
use Rattle.xr_rmap.proofs.rmap.Rmap.swap.Goals as goal

pub replace-requires-clause-rules : goal.replace-requires-clause-rules
replace-requires-clause-rules c =
    let place = c.requires.place in
    replaced_owners _ c.requires.tree.records c.args.old.now c.args.new c.requires.held c.requires.good c.requires.fits place.0 place.1 place.2

pub returns-clause-step : goal.returns-clause-step
returns-clause-step c = change_step _ _ _ _ _ 0 c.requires.tree c.replace.ensures.step (omega (arith, c.replace.ensures.room))

pub returns-clause-set : goal.returns-clause-set
returns-clause-set c =
    replacement_is_swap reverse_form is_reverse_form _ _ _ _ c.args.old.now c.args.new c.requires.tree c.requires.held c.replace.ensures.step

pub returns-clause-fewer : goal.returns-clause-fewer
returns-clause-fewer c =
    let step = c.replace.ensures.step in
    rw step.set (omega (arith, replaced_length reverse_form.order c.args.old.now c.args.new (owner_records c.args.over.now c.args.self.now)))
