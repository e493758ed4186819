use Rattle.std.proofs.Common.{subst}
use Rattle.xr_group.specs.Group.{GroupState}
use Rattle.xr_group.specs.Next.{IsNextOf, IsShorter, sizes_now}
use Rattle.xr_group.proofs.group.Group.next_size.Goals as goal

pub returns : goal.returns
returns c = subst (λ (s : GroupState). IsNextOf IsShorter (sizes_now s) c.args.after c.next_size_in.result) c.self.view_is c.next_size_in.ensures
