use Rattle.std.proofs.Common.{subst, sym}
use Rattle.xr_group.proofs.FreeLemmas.{paired_read, paired_seen}
use Rattle.xr_group.specs.Sets.{IsPaired}
use Rattle.xr_group.proofs.group.Group.paired.Goals as goal

pub returns : goal.returns
returns c =
    let g = c.self.inside in (
      λ is. subst IsPaired c.self.view_is (paired_seen g.over g.trees c.self.invariant.now_group (c.paired.ensures.0 is)),
      λ paired. c.paired.ensures.1 (paired_read g.over g.trees c.self.invariant.now_group (subst IsPaired (sym c.self.view_is) paired)),
    )
