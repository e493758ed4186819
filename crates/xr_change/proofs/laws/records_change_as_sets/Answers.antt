use Rattle.xr_change.specs.SetLaws.{inserted_gains, inserted_length, removed_length, removed_loses, replaced_length, replaced_swaps}
use Rattle.xr_change.proofs.laws.records_change_as_sets.Goals as goal

pub returns-clause-inserted : goal.returns-clause-inserted
returns-clause-inserted g c r xs = let order = g.R.Record.form.order in (inserted_gains order r xs, inserted_length order r xs)

pub returns-clause-removed : goal.returns-clause-removed
returns-clause-removed g c r xs rules held =
    let order = g.R.Record.form.order in
    let total = g.met.R.Record.is_form.total in
    (removed_loses order total r xs rules.ascend held, removed_length order total r xs held)

pub returns-clause-replaced : goal.returns-clause-replaced
returns-clause-replaced g c old new xs rules held =
    let order = g.R.Record.form.order in
    (replaced_swaps order g.met.R.Record.is_form.total old new xs rules.ascend held, replaced_length order old new xs)
