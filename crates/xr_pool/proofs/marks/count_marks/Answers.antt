use Rattle.std.proofs.Common.{length, false, arith, ap}
use Rattle.xr_pool.proofs.MarkLemmas.{mark_counted, marked_past, unmarked_here}
use Rattle.xr_pool.proofs.marks.count_marks.Goals as goal
use Rattle.xr_pool.proofs.marks.count_marks.Goals.{then-mark, else-mark}

pub loop-mark-preserved : goal.loop-mark-preserved
loop-mark-preserved c =
    let marks = c.args.marks.now in
    let i = c.loop-mark.mark-index in
    elim c.if-mark.branch [
      | then-mark w ↦ record {
        few = omega arith;
        rest = rw w.count-is
            (mark_counted marks i false c.loop-mark.count _ c.loop-mark-test.true w.if-mark.true c.loop-mark.invariant.rest);
      }
      | else-mark w ↦ record {
        few = omega arith;
        rest = omega (arith, w.count-is, c.loop-mark.invariant.rest, ap length (unmarked_here marks i false c.loop-mark-test.true w.if-mark.false));
      }
    ]

pub returns : goal.returns
returns c = omega (arith, c.loop-mark.invariant.rest, ap length (marked_past c.loop-mark.mark-index c.args.marks.now c.loop-mark-test.false))
