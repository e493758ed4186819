use Rattle.xr_block.specs.SharedPoolLaws.{holds_in_any_order, widens_to_others}
use Rattle.xr_block.proofs.laws.changes_widen.Goals as goal

pub returns-clause-others : goal.returns-clause-others
returns-clause-others c = widens_to_others

pub returns-clause-order : goal.returns-clause-order
returns-clause-order c = holds_in_any_order
