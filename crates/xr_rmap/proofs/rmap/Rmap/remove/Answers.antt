-- All pairs of the run stand in the record that says the first of them.
use Rattle.xr_rmap.proofs.PartLemmas.{held_part}
use Rattle.xr_rmap.specs.Rmap.{owned_run}
use Rattle.xr_rmap.proofs.rmap.Rmap.remove.Goals as goal

pub carve-requires-clause-part : goal.carve-requires-clause-part
carve-requires-clause-part c =
    let found = c.in-Some.ensures.some in
    held_part _ c.requires.tree.records (owned_run c.args.run c.args.owner c.args.off) c.in-Some.whole c.requires.good found.0 found.1 c.requires.held
