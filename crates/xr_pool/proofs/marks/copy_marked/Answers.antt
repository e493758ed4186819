use Rattle.std.proofs.Common.{length, arith}
use Rattle.xr_pool.proofs.MarkLemmas.{cleared_is, copied_is}
use Rattle.xr_pool.proofs.marks.copy_marked.Goals as goal

pub returns-clause-copied : goal.returns-clause-copied
returns-clause-copied c =
    copied_is c.args.from.now c.loop-place.to c.loop-place.marks (omega arith) (omega arith)
    (λ k below. c.loop-place.invariant.cleared k (omega arith)) c.loop-place.invariant.others

pub returns-clause-cleared : goal.returns-clause-cleared
returns-clause-cleared c =
    cleared_is (length c.args.marks.now) c.loop-place.marks (omega arith) (λ k below. c.loop-place.invariant.cleared k (omega arith))
