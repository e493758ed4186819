use Rattle.std.proofs.Common.{slice_index}
use Rattle.xr_pool.specs.Marks.{marked}
use Rattle.xr_pool.proofs.MarkLemmas.{IsAfter}
use Rattle.xr_pool.proofs.marks.place_of_mark.Given as goal

abbrev pub invariant-loop-place : goal.invariant-loop-place
invariant-loop-place l = IsAfter l.marks l.place l.left (slice_index (marked 0 l.marks) l.i)
