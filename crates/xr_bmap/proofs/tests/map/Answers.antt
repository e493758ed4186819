-- A piece that is a hole and has all offsets lets them be mapped.
use Rattle.std.proofs.Common.{◌≡◌, ℕ, subst, arith}
use Rattle.xr_bmap.specs.File.{slot_of_file}
use Rattle.xr_bmap.specs.PieceLaws.{hole_from_piece}
use Rattle.xr_bmap.specs.Slots.{IsHole}
use Rattle.xr_bmap.proofs.tests.map.Goals as goal

pub map-requires-clause-hole : goal.map-requires-clause-hole
map-requires-clause-hole g c =
    let same : c.in-Hole.found ≡ c.args.len = omega arith in
    subst (λ (n : ℕ). IsHole (slot_of_file c.args.file.now) c.args.off n) same
    (hole_from_piece (slot_of_file c.args.file.now) c.args.off c.args.len c.in-Hole.found c.in-Hole.ensures.piece)
