use Rattle.std.proofs.Common.{length}
use Rattle.xr_cmd.specs.declared.script.TheConstants.{MAX_LINES, MAX_BYTES}
use Rattle.xr_cmd.proofs.LineLemmas.{IsReadTo}
use Rattle.xr_cmd.proofs.script.parse_steps.Given as goal

abbrev pub invariant-loop-rest : goal.invariant-loop-rest
invariant-loop-rest l = IsReadTo MAX_LINES MAX_BYTES l.bytes l.rest l.number l.steps.items

abbrev pub decreases-loop-rest : goal.decreases-loop-rest
decreases-loop-rest l = length l.rest
