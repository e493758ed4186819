use Rattle.std.proofs.Common.{rules}
use Rattle.xr_chain.proofs.tests.Lent.stage.Goals as goal

pub stage-requires-clause-paired : goal.stage-requires-clause-paired
stage-requires-clause-paired g c = c.paired.ensures.0 (search rules)
