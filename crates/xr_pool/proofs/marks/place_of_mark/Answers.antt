use Rattle.std.proofs.Common.{◌≡◌, length, drop, false, arith, ap}
use Rattle.xr_pool.specs.Marks.{marked}
use Rattle.xr_pool.proofs.MarkLemmas.{mark_found, mark_passed, marked_past, none_passed}
use Rattle.xr_pool.proofs.marks.place_of_mark.Goals as goal
use Rattle.xr_pool.proofs.marks.place_of_mark.Goals.{then-mark+else-left-eq0, else-mark}

pub returns-then-left-eq0-clause-place : goal.returns-then-left-eq0-clause-place
returns-then-left-eq0-clause-place c =
    mark_found c.args.marks.now c.loop-place.place false c.loop-place.left _ c.loop-place-test.true c.if-mark.true c.if-left-eq0.true c.loop-place.invariant

pub loop-place-preserved : goal.loop-place-preserved
loop-place-preserved c =
    let marks = c.args.marks.now in
    let place = c.loop-place.place in
    elim c.if-mark.branch [
      | then-mark+else-left-eq0 w ↦ rw w.left-is
          (mark_passed marks place false c.loop-place.left _ c.loop-place-test.true w.if-mark.true (omega arith) c.loop-place.invariant)
      | else-mark w ↦ rw w.left-is
          (none_passed marks place false c.loop-place.left _ c.loop-place-test.true w.if-mark.false c.loop-place.invariant)
    ]

pub unreachable-requires : goal.unreachable-requires
unreachable-requires c =
    let none : length (marked c.loop-place.place (drop c.loop-place.place c.args.marks.now)) ≡ 0 =
    ap length (marked_past c.loop-place.place c.args.marks.now c.loop-place-test.false) in
    omega (arith, c.loop-place.invariant.some)
