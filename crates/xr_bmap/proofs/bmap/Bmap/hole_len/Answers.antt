-- Nothing is mapped up to the next extent, or up to the end.
use Rattle.std.proofs.Common.{arith}
use Rattle.xr_bmap.proofs.BesideLemmas.{next_starts}
use Rattle.xr_bmap.proofs.PieceLemmas.{hole_to_end, hole_to_next}
use Rattle.xr_bmap.specs.Bmap.{extents_in_bmap}
use Rattle.xr_bmap.proofs.bmap.Bmap.hole_len.Goals as goal

pub returns-in-None-clause-hole : goal.returns-in-None-clause-hole
returns-in-None-clause-hole c =
    hole_to_end (extents_in_bmap c.args.over.now c.args.self.now) c.args.off c.requires.hole (rw c.begins_at.ensures at c.in-None.ensures) c.args.most

pub returns-in-Some-clause-hole : goal.returns-in-Some-clause-hole
returns-in-Some-clause-hole c =
    let least = rw c.begins_at.ensures at c.in-Some.ensures in
    hole_to_next (extents_in_bmap c.args.over.now c.args.self.now) c.args.off c.requires.hole c.in-Some.next least c.min.result
    (omega (arith, next_starts c.in-Some.next c.args.off least.fits, c.min.ensures))
