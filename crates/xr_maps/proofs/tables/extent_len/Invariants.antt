use Rattle.std.proofs.Common.{◌≡◌, ℕ, ◌+◌, ◌-◌, ◌<◌, ◌≤◌, Some, length}
use Rattle.xr_base.specs.Address.{address_after}
use Rattle.xr_maps.specs.Tables.{slot_of}
use Rattle.xr_maps.proofs.tables.extent_len.Given as goal

abbrev pub invariant-loop-len : goal.invariant-loop-len
invariant-loop-len l =
    (0 < l.len) × (l.off + l.len ≤ length l.table)
    × ((i : ℕ) → i < l.len → slot_of l.table (l.off + i) ≡ Some (address_after l.at i))

abbrev pub decreases-loop-len : goal.decreases-loop-len
decreases-loop-len l = length l.table - l.len
