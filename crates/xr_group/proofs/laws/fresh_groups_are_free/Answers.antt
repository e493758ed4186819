use Rattle.xr_group.specs.FreshGroupLaws.{fresh_groups_are_free}
use Rattle.xr_group.proofs.laws.fresh_groups_are_free.Goals as goal

pub returns : goal.returns
returns c = fresh_groups_are_free
