use Rattle.std.proofs.Common.{ap, subst, sym, ◌∙◌}
use Rattle.xr_group.proofs.CallLemmas.{dropped_view, parts_dropped}
use Rattle.xr_open.specs.PoolState.{dropped_to_kept}
use Rattle.xr_group.specs.Parts.{AreGroupParts, group_state_of}
use Rattle.xr_pool.specs.Overlay.{Blocks}
use Rattle.xr_group.proofs.group.Group.drop_changes.Goals as goal

pub invariant_of-self : goal.invariant_of-self
invariant_of-self c =
    let g = c.self.inside in
    subst (λ (b : Blocks). AreGroupParts b g.kept g.kept) (sym c.drop_changes.ensures) (parts_dropped g.over g.trees g.kept c.self.invariant)

pub returns : goal.returns
returns c = ap group_state_of c.drop_changes.ensures ∙ dropped_view c.self.inside.over ∙ ap dropped_to_kept c.self.view_is
