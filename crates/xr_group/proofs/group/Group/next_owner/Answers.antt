use Rattle.std.proofs.Common.{subst}
use Rattle.xr_group.specs.Group.{GroupState}
use Rattle.xr_group.specs.Next.{IsNextOf, revs_now}
use Rattle.xr_maps.specs.Records.{IsBefore}
use Rattle.xr_group.proofs.group.Group.next_owner.Goals as goal

pub returns : goal.returns
returns c = subst (λ (s : GroupState). IsNextOf IsBefore (revs_now s) c.args.after c.next_owner_in.result) c.self.view_is c.next_owner_in.ensures
