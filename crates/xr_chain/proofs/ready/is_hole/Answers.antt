use Rattle.xr_bmap.specs.File.{slot_of_file}
use Rattle.xr_chain.proofs.PieceLemmas.{hole_told, no_hole_told}
use Rattle.xr_chain.proofs.ready.is_hole.Goals as goal

pub returns-in-Hole : goal.returns-in-Hole
returns-in-Hole c = hole_told (slot_of_file c.args.file.now) c.args.off c.args.run.now.len c.in-Hole.len c.in-Hole.ensures.piece

pub returns-in-Mapped : goal.returns-in-Mapped
returns-in-Mapped c = no_hole_told (slot_of_file c.args.file.now) c.args.off c.args.run.now.len c.in-Mapped.len c.in-Mapped.at c.in-Mapped.ensures.piece
