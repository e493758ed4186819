use Rattle.xr_chain.proofs.PartLemmas.{front_good}
use Rattle.xr_chain.proofs.parts.front_of.Goals as goal

pub returns-clause-good : goal.returns-clause-good
returns-clause-good c = front_good c.args.run.now c.requires.good c.args.len c.requires.some c.requires.within
