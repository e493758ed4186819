use Rattle.std.proofs.Common.{subst}
use Rattle.xr_change.proofs.SealLemmas.{known_sealed}
use Rattle.xr_pool.specs.OverlayLaws.{overlay_known}
use Rattle.xr_pool.specs.Overlay.{AreKnown}
use Rattle.xr_change.proofs.draft.Draft.is_known.Goals as goal

pub returns : goal.returns
returns g c =
    let told = c.has_blocks.ensures in
    subst AreKnown c.self.view_is
    (known_sealed g.R.Record.form c.self.inside.over c.self.inside.edited.items (overlay_known c.self.inside.over told.image told.blocks told.identified) c.self.invariant)
