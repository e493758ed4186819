use Rattle.std.proofs.Common.{[], ◌∷◌}
use Rattle.xr_commit.proofs.PendingWalkLemmas.{HasWalked}
use Rattle.xr_commit.proofs.pending.walk_back.Given as goal

abbrev pub invariant-loop-left : goal.invariant-loop-left
invariant-loop-left l = HasWalked (λ item. item ∷ []) l.left l.items l.initial.done l.initial.works.items l.done l.works.items

abbrev pub decreases-loop-left : goal.decreases-loop-left
decreases-loop-left l = l.left
