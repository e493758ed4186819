use Rattle.std.proofs.Common.{refl, arith}
use Rattle.xr_disk.proofs.MemoryCallLemmas.{failed_call}
use Rattle.xr_disk.proofs.memory.MemDiskDisk.sync.Goals as goal

pub returns-in-Stops-clause-call : goal.returns-in-Stops-clause-call
returns-in-Stops-clause-call c = failed_call _ _ _ _ _ _ _ _ c.begin.ensures.clock (omega arith)
    (record { kept = c.count.ensures.kept; cause = omega (arith, c.count.ensures.counted); uncounted = tt }) refl
