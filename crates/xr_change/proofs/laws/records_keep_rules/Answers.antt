use Rattle.xr_change.specs.SetLaws.{inserted_rules, removed_rules, replaced_rules}
use Rattle.xr_change.proofs.laws.records_keep_rules.Goals as goal

pub returns-clause-inserted : goal.returns-clause-inserted
returns-clause-inserted g c r xs = inserted_rules g.R.Record.form g.met.R.Record.is_form xs r

pub returns-clause-removed : goal.returns-clause-removed
returns-clause-removed g c = removed_rules g.R.Record.form

pub returns-clause-replaced : goal.returns-clause-replaced
returns-clause-replaced g c old new xs = replaced_rules g.R.Record.form g.met.R.Record.is_form xs old new
