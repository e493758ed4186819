use Rattle.xr_change.proofs.WriteLemmas.{block_writes}
use Rattle.xr_change.proofs.write.gather.Goals as goal

pub returns-clause-writes : goal.returns-clause-writes
returns-clause-writes g c = block_writes _ _ _ c.is_known.ensures.all c.requires.here
