use Rattle.std.proofs.Common.{◌≡◌, ◌+◌, ◌≤◌, length, drop}
use Rattle.xr_pool.specs.Marks.{marked}
use Rattle.xr_pool.proofs.marks.count_marks.Given as goal

abbrev pub invariant-loop-mark : goal.invariant-loop-mark
invariant-loop-mark l = record {
  few : l.count ≤ l.mark-index;
  rest : l.count + length (marked l.mark-index (drop l.mark-index l.marks)) ≡ length (marked 0 l.marks);
}
