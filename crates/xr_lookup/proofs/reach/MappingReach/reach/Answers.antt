use Rattle.xr_lookup.specs.Reach.{next_key}
use Rattle.xr_lookup.proofs.ReachLemmas.{mapping_inside}
use Rattle.xr_lookup.proofs.reach.MappingReach.reach.Goals as goal

pub returns : goal.returns
returns c = λ x under.
    rw (c.between.ensures, c.offset_in.ensures, c.next_offset.ensures) (mapping_inside c.args.low.now c.args._high.now (next_key c.args.next) x under)
