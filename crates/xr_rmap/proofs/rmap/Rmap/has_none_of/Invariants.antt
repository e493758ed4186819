-- None of the pairs up to here is there.
use Rattle.std.proofs.Common.{ℕ, ◌+◌, ◌<◌}
use Rattle.xr_rmap.specs.Pairs.{offset_at}
use Rattle.xr_rmap.specs.Rmap.{HasPair}
use Rattle.xr_rmap.proofs.rmap.Rmap.has_none_of.Given as goal

abbrev pub invariant-loop-i : goal.invariant-loop-i
invariant-loop-i l =
    (k : ℕ) → k < l.i → ¬ (HasPair l.over l.self l.wanted.owner (offset_at l.wanted k) (l.wanted.start + k))
