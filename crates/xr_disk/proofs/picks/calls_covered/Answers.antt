use Rattle.xr_disk.proofs.PickLemmas.{covered_at_sync, covered_on}
use Rattle.xr_disk.proofs.picks.calls_covered.Goals as goal
use Rattle.xr_disk.proofs.picks.calls_covered.Goals.{in-Sync, in_default}

-- src/picks.rt:71:5
pub loop-i-preserved : goal.loop-i-preserved
loop-i-preserved c = elim c.match-done-i.branch [
  | in-Sync w ↦ covered_at_sync c.args.done.now c.loop-i.i _ c.match-done-i.covered c.loop-i-test.true w.in-Sync.number w.in-Sync.is w.covered-is
  | in_default w ↦ covered_on c.args.done.now c.loop-i.i _ c.loop-i.covered c.match-done-i.covered c.loop-i-test.true c.loop-i.invariant w.in_default.not-Sync w.covered-is
]
