-- The last extent that begins up to the offset doesn't have it, so none has.
use Rattle.std.proofs.Common.{arith}
use Rattle.xr_bmap.proofs.BesideLemmas.{none_holds}
use Rattle.xr_bmap.specs.SlotLaws.{bounds}
use Rattle.xr_bmap.proofs.bmap.Bmap.holder_of.Goals as goal

pub returns-else-off-last-clause-none : goal.returns-else-off-last-clause-none
returns-else-off-last-clause-none c none =
    let last = c.in_ok-last.last in
    none_holds _ c.requires.tree.records c.args.off last (rw c.begins_at.ensures at c.in_ok-last.ensures)
    (λ has. let in_last = bounds last.off last.len c.args.off has in absurd (omega (arith, in_last.0, in_last.1, c.if-off-last.false)))
