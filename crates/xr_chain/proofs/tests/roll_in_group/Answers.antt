use Rattle.std.proofs.Common.{rules}
use Rattle.xr_chain.proofs.tests.roll_in_group.Goals as goal

pub roll_group-chain-requires-clause-paired : goal.roll_group-chain-requires-clause-paired
roll_group-chain-requires-clause-paired g c = c.paired.ensures.0 (search rules)
