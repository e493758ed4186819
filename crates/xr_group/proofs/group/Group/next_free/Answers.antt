use Rattle.std.proofs.Common.{subst}
use Rattle.xr_group.specs.Group.{GroupState}
use Rattle.xr_group.specs.Next.{IsNextOf, StartsBefore, frees_now}
use Rattle.xr_group.proofs.group.Group.next_free.Goals as goal

pub returns : goal.returns
returns c = subst (λ (s : GroupState). IsNextOf StartsBefore (frees_now s) c.args.after c.next_free_in.result) c.self.view_is c.next_free_in.ensures
