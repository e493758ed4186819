use Rattle.xr_balance.proofs.KindLemmas.{chains_are_short}
use Rattle.xr_balance.proofs.RowLemmas.{rows_are_chains}
use Rattle.xr_balance.proofs.laws.rows_are_chains.Goals as goal

pub returns : goal.returns
returns c = record { chains = rows_are_chains; short = chains_are_short }
