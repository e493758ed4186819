use Rattle.xr_chain.proofs.PartLemmas.{back_good, back_group}
use Rattle.xr_chain.proofs.parts.back_of.Goals as goal

pub returns-clause-good : goal.returns-clause-good
returns-clause-good c = back_good c.args.run.now c.requires.good c.args.len c.requires.within

pub returns-clause-group : goal.returns-clause-group
returns-clause-group c = back_group c.args.run.now c.requires.good c.args.len c.requires.within
