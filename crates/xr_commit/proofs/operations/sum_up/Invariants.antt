use Rattle.std.proofs.Common.{◌-◌, length}
use Rattle.xr_commit.proofs.OperationSumLemmas.{IsSumming}
use Rattle.xr_commit.proofs.operations.sum_up.Given as goal

abbrev pub invariant-loop-bytes : goal.invariant-loop-bytes
invariant-loop-bytes l = IsSumming l.body l.operations l.bytes l.unmounts

abbrev pub decreases-loop-bytes : goal.decreases-loop-bytes
decreases-loop-bytes l = length l.body - l.bytes
