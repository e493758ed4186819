-- An offset is in an extent, or in a hole.
use Rattle.std.proofs.Common.{refl}
use Rattle.xr_bmap.proofs.PieceLemmas.{is_good_piece, is_hole_piece, is_mapped_piece}
use Rattle.xr_bmap.specs.Bmap.{extents_in_bmap}
use Rattle.xr_bmap.proofs.bmap.Bmap.lookup.Goals as goal

pub returns-in-None-clause-piece : goal.returns-in-None-clause-piece
returns-in-None-clause-piece c =
    let len = c.hole_len.ensures in
    is_hole_piece (extents_in_bmap c.args.over.now c.args.self.now) c.args.off (c.in-None.ensures.none refl) c.args.most c.hole_len.result len.some len.few len.hole
    len.longest c.requires.tree.records

pub returns-in-Some-clause-piece : goal.returns-in-Some-clause-piece
returns-in-Some-clause-piece c =
    let found = c.in-Some.ensures.some in
    rw c.min.ensures
    (is_mapped_piece (extents_in_bmap c.args.over.now c.args.self.now) c.requires.tree.records c.in-Some.x found.0 c.args.off c.args.most found.1 c.requires.some)

pub returns-in-Some-clause-good : goal.returns-in-Some-clause-good
returns-in-Some-clause-good c =
    let found = c.in-Some.ensures.some in
    rw c.min.ensures (is_good_piece c.in-Some.x c.args.off c.args.most found.2 found.1 c.requires.some)
