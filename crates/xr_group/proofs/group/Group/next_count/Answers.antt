use Rattle.std.proofs.Common.{subst}
use Rattle.xr_group.specs.Group.{GroupState}
use Rattle.xr_group.specs.Next.{IsNextOf, IsCountedBefore, counteds_now}
use Rattle.xr_group.proofs.group.Group.next_count.Goals as goal

pub returns : goal.returns
returns c = subst (λ (s : GroupState). IsNextOf IsCountedBefore (counteds_now s) c.args.after c.next_count_in.result) c.self.view_is c.next_count_in.ensures
