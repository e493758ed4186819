use Rattle.std.proofs.Common.{◌≡◌, ℕ, ◌<◌, false, get_or}
use Rattle.xr_pool.specs.Marks.{AreSameUnmarked}
use Rattle.xr_pool.proofs.marks.copy_marked.Given as goal

abbrev pub invariant-loop-place : goal.invariant-loop-place
invariant-loop-place l = record {
  others : AreSameUnmarked l.from l.to l.marks;
  cleared : (k : ℕ) → k < l.place → get_or l.marks k false ≡ false;
}
