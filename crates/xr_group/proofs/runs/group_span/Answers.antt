-- A good run is one of its group's data blocks.
use Rattle.xr_group.proofs.AddressLemmas.{good_span}
use Rattle.xr_group.proofs.runs.group_span.Goals as goal

pub returns-clause-good : goal.returns-clause-good
returns-clause-good c = good_span c.args.run.now c.requires
