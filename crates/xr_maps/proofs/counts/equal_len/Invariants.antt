use Rattle.std.proofs.Common.{◌≡◌, ℕ, ◌+◌, ◌-◌, ◌<◌, ◌≤◌, length}
use Rattle.std.specs.Prelude.{slice_index}
use Rattle.xr_maps.proofs.counts.equal_len.Given as goal

abbrev pub invariant-loop-len : goal.invariant-loop-len
invariant-loop-len l =
    (0 < l.len) × (l.from + l.len ≤ length l.counts)
    × ((i : ℕ) → i < l.len → slice_index l.counts (l.from + i) ≡ slice_index l.counts l.from)

abbrev pub decreases-loop-len : goal.decreases-loop-len
decreases-loop-len l = length l.counts - l.len
