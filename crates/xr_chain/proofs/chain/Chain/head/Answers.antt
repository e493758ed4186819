use Rattle.xr_chain.proofs.HeadLemmas.{head_of}
use Rattle.xr_chain.proofs.chain.Chain.head.Goals as goal

pub returns-clause-first : goal.returns-clause-first
returns-clause-first c =
    head_of c.args.self.now c.works.result.now c.slots.result.now _ 0 c.works.ensures.list c.slots.ensures.list c.requires.some c.requires.placed
