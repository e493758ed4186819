use Rattle.xr_group.proofs.RefusalLemmas.{refused_are_no_groups}
use Rattle.xr_group.proofs.laws.refused_are_no_groups.Goals as goal

pub returns : goal.returns
returns c = refused_are_no_groups
