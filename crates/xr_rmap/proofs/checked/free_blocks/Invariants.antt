-- The free blocks up to a block are counted.
use Rattle.std.proofs.Common.{◌≡◌, ◌≤◌}
use Rattle.xr_pool.specs.Overlay.{free_below}
use Rattle.xr_rmap.proofs.checked.free_blocks.Given as goal

abbrev pub invariant-loop-n : goal.invariant-loop-n
invariant-loop-n l = record { counted : l.count ≡ free_below l.over l.n; few : l.count ≤ l.n }
