use Rattle.std.proofs.Common.{List, take}
use Rattle.xr_commit.specs.LogRecords.{AreIn, LogRecord}
use Rattle.xr_commit.specs.ReadBodies.{HaveBeenRead}
use Rattle.xr_commit.proofs.bodies.read_entries.Given as goal

abbrev pub invariant-loop-head : goal.invariant-loop-head
invariant-loop-head l = (records : List LogRecord) → AreIn l.log l.heads records → HaveBeenRead (take l.head-index records) l.entries.items l.reader
