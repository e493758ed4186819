use Rattle.std.proofs.Common.{ap, subst, sym, ◌∙◌}
use Rattle.xr_group.proofs.CallLemmas.{kept_view, parts_kept}
use Rattle.xr_open.specs.PoolState.{kept_now}
use Rattle.xr_group.specs.Parts.{AreGroupParts, group_state_of}
use Rattle.xr_pool.specs.Overlay.{Blocks}
use Rattle.xr_group.proofs.group.Group.keep.Goals as goal

pub invariant_of-self : goal.invariant_of-self
invariant_of-self c =
    let g = c.self.inside in
    subst (λ (b : Blocks). AreGroupParts b g.trees g.trees) (sym c.keep.ensures) (parts_kept g.over g.trees g.kept c.self.invariant c.has_blocks.ensures.blocks)

pub returns : goal.returns
returns c = ap group_state_of c.keep.ensures ∙ kept_view c.self.inside.over ∙ ap kept_now c.self.view_is
