use Rattle.std.proofs.Common.{take, arith}
use Rattle.std.proofs.lemmas.Grind.{common_steps}
use Rattle.xr_cmd.proofs.ReadLemmas.{stays_within_more}
use Rattle.xr_cmd.proofs.streams.read_front.Goals as goal

pub returns-in_err-extend_from_slice-clause-limit : goal.returns-in_err-extend_from_slice-clause-limit
returns-in_err-extend_from_slice-clause-limit g c =
    stays_within_more _ _ _ _ _ c.loop-buffer.bytes.items (take c.in_ok-n.n c.take_at_most.new.out)
    (grind (arith, common_steps))
    c.loop-buffer.invariant.taken c.in_ok-n.ensures.front.taken
