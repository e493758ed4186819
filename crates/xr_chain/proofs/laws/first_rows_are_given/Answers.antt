use Rattle.xr_chain.proofs.FirstRowLemmas as rows
use Rattle.xr_chain.proofs.laws.first_rows_are_given.Goals as goal

pub returns : goal.returns
returns c = rows.first_rows_are_given
