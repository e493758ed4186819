use Rattle.std.proofs.Common.{◌≤◌, ◌-◌, length, take}
use Rattle.xr_record.specs.ReaderFields.{AwaitsMore, reader_state}
use Rattle.xr_record.specs.ReaderSteps.{TakesOn}
use Rattle.xr_record.proofs.reader.read.Given as goal

abbrev pub invariant-loop-done : goal.invariant-loop-done
invariant-loop-done l = record {
  awaits : AwaitsMore l.reader;
  within : l.done ≤ length l.piece;
  reads : TakesOn (reader_state l.initial.reader) (reader_state l.reader) (take l.done l.piece) l.entries.items;
}

abbrev pub decreases-loop-done : goal.decreases-loop-done
decreases-loop-done l = length l.piece - l.done
