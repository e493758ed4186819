use Rattle.std.proofs.Common.{subst}
use Rattle.xr_bmap.proofs.FilePoolLemmas.{are_states}
use Rattle.xr_bmap.specs.File.{AreFileStates}
use Rattle.xr_bmap.proofs.file.File.is_file.Goals as goal

pub returns : goal.returns
returns c =
    subst AreFileStates c.self.view_is
    (are_states c.self.inside.number.0 c.self.inside.uuid c.self.inside.over c.self.inside.bmap.tree c.self.inside.kept c.self.invariant
    c.has_blocks.ensures.image c.has_blocks.ensures.blocks)
