use Rattle.xr_block.specs.SharedPoolLaws.{parts_are_beside, stays_parted, stays_parted_beside_zero}
use Rattle.xr_block.proofs.laws.pool_stays_parted.Goals as goal

pub returns-clause-beside : goal.returns-clause-beside
returns-clause-beside c = parts_are_beside

pub returns-clause-change : goal.returns-clause-change
returns-clause-change c = stays_parted

pub returns-clause-block_zero : goal.returns-clause-block_zero
returns-clause-block_zero c = stays_parted_beside_zero
