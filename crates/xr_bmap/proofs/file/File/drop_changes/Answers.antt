use Rattle.std.proofs.Common.{ap, ◌∙◌}
use Rattle.xr_bmap.proofs.FileCallLemmas.{dropped_view}
use Rattle.xr_open.specs.PoolState.{dropped_to_kept}
use Rattle.xr_bmap.specs.Parts.{file_state_of}
use Rattle.xr_bmap.proofs.file.File.drop_changes.Goals as goal

pub returns : goal.returns
returns c =
    ap (file_state_of c.self.inside.number.0 c.self.inside.uuid) c.drop_changes.ensures
    ∙ dropped_view c.self.inside.number.0 c.self.inside.uuid c.self.inside.over
    ∙ ap dropped_to_kept c.self.view_is
