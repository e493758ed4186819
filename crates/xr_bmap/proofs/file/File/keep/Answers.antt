use Rattle.std.proofs.Common.{ap, subst, sym, ◌∙◌}
use Rattle.xr_bmap.proofs.FileCallLemmas.{kept_view, parts_kept}
use Rattle.xr_open.specs.PoolState.{kept_now}
use Rattle.xr_bmap.specs.Parts.{AreFileParts, file_state_of}
use Rattle.xr_pool.specs.Overlay.{Blocks}
use Rattle.xr_bmap.proofs.file.File.keep.Goals as goal

pub invariant_of-self : goal.invariant_of-self
invariant_of-self c =
    subst (λ (b : Blocks). AreFileParts c.self.inside.number.0 c.self.inside.uuid b c.self.inside.bmap.tree c.self.inside.bmap.tree) (sym c.keep.ensures)
    (parts_kept c.self.inside.number.0 c.self.inside.uuid c.self.inside.over c.self.inside.bmap.tree c.self.inside.kept c.self.invariant
    c.has_blocks.ensures.blocks)

pub returns : goal.returns
returns c =
    ap (file_state_of c.self.inside.number.0 c.self.inside.uuid) c.keep.ensures
    ∙ kept_view c.self.inside.number.0 c.self.inside.uuid c.self.inside.over
    ∙ ap kept_now c.self.view_is
