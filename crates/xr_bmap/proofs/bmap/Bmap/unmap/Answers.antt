-- The offsets are all in the extent that has the first of them.
use Rattle.std.proofs.Common.{◌≡◌, ◌+◌, None, is_some, ap, ◌∙◌, arith}
use Rattle.xr_bmap.proofs.PieceLemmas.{no_slot, part_of_one}
use Rattle.xr_bmap.specs.Bmap.{slot_in}
use Rattle.xr_bmap.proofs.bmap.Bmap.unmap.Goals as goal

pub unreachable-requires : goal.unreachable-requires
unreachable-requires c =
    let some = c.requires.mapped.some in
    let same : c.args.off + 0 ≡ c.args.off = omega arith in
    let is = c.requires.mapped.alike 0 (omega (arith, some)) in
    let none : slot_in c.args.over.now c.args.self.now (c.args.off + 0) ≡ None =
    ap (slot_in c.args.over.now c.args.self.now) same ∙ no_slot _ c.args.off (c.holder_of.ensures.none (ap is_some c.in_default.is)) in
    cc

pub carve-requires-clause-part : goal.carve-requires-clause-part
carve-requires-clause-part c =
    let found = c.in-Some.ensures.some in
    part_of_one _ c.requires.tree.records c.in-Some.whole found.0 c.args.off c.args.len found.1 c.requires.mapped
