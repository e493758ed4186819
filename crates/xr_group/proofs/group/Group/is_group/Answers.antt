use Rattle.std.proofs.Common.{subst}
use Rattle.xr_group.proofs.GroupPoolLemmas.{are_groups}
use Rattle.xr_group.specs.Group.{AreGroups}
use Rattle.xr_group.proofs.group.Group.is_group.Goals as goal

pub returns : goal.returns
returns c =
    let g = c.self.inside in
    subst AreGroups c.self.view_is (are_groups g.over g.trees g.kept c.self.invariant c.has_blocks.ensures.image c.has_blocks.ensures.blocks)
