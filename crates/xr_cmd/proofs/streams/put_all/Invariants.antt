use Rattle.std.proofs.Common.{◌-◌, length}
use Rattle.xr_cmd.proofs.PutLemmas.{HasPut}
use Rattle.xr_cmd.proofs.streams.put_all.Given as goal

abbrev pub invariant-loop-done : goal.invariant-loop-done
invariant-loop-done g l =
    HasPut g.O.Sink.held g.O.Sink.faults l.initial.sink l.sink l.done l.bytes

abbrev pub decreases-loop-done : goal.decreases-loop-done
decreases-loop-done g l = length l.bytes - l.done
