use Rattle.xr_balance.proofs.ExchangeBalances.{exchange_keeps_owners, exchange_moves}
use Rattle.xr_balance.proofs.laws.exchanges_are_balances.Goals as goal

pub returns : goal.returns
returns c = record { moves = exchange_moves; owners = exchange_keeps_owners }
