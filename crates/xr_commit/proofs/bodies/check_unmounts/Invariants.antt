use Rattle.std.proofs.Common.{List, All, take}
use Rattle.xr_commit.specs.LogRecords.{AreIn, LogRecord}
use Rattle.xr_commit.specs.Operations.{KeepsUnmounts}
use Rattle.xr_commit.proofs.bodies.check_unmounts.Given as goal

abbrev pub invariant-loop-head : goal.invariant-loop-head
invariant-loop-head l = (records : List LogRecord) → AreIn l.log l.heads records → All KeepsUnmounts (take l.head-index records)
