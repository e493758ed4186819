use Rattle.std.proofs.Common.{◌+◌, List, subst, sym}
use Rattle.xr_check.proofs.JudgeLemmas.{one_group_more}
use Rattle.xr_check.specs.Verdicts.{AreFirstGroups}
use Rattle.xr_group.specs.Group.{GroupState}
use Rattle.xr_check.proofs.tests.groups.Goals as goal

pub loop-number-preserved : goal.loop-number-preserved
loop-number-preserved g c =
    let n = c.loop-number.number in
    subst (λ (groups : List GroupState). AreFirstGroups groups (n + 1)) (sym c.in_ok-push.ensures.items)
    (one_group_more c.loop-number.groups.items n c.in_ok-group.field-0 c.loop-number.invariant c.in_ok-group.ensures)
