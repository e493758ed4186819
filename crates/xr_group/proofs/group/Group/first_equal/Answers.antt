use Rattle.std.proofs.Common.{subst, sym}
use Rattle.xr_group.specs.Group.{GroupState, IsRunOf}
use Rattle.xr_group.specs.Sets.{IsFirstPart}
use Rattle.xr_group.proofs.group.Group.first_equal.Goals as goal

pub first_equal_in-requires-clause-run : goal.first_equal_in-requires-clause-run
first_equal_in-requires-clause-run c = subst (λ (s : GroupState). IsRunOf s c.args.run.now) (sym c.self.view_is) c.requires

pub returns : goal.returns
returns c = subst (λ (s : GroupState). IsFirstPart s c.args.run.now c.first_equal_in.result) c.self.view_is c.first_equal_in.ensures
