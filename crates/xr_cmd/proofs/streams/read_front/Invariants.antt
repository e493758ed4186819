use Rattle.std.proofs.Common.{◌-◌, vec_len}
use Rattle.xr_cmd.proofs.ReadLemmas.{HasRead}
use Rattle.xr_cmd.proofs.streams.read_front.Given as goal

abbrev pub invariant-loop-buffer : goal.invariant-loop-buffer
invariant-loop-buffer g l =
    HasRead g.S.Source.left g.S.Source.faults l.initial.source l.source l.most l.bytes.items

abbrev pub decreases-loop-buffer : goal.decreases-loop-buffer
decreases-loop-buffer g l = l.most - vec_len l.bytes
