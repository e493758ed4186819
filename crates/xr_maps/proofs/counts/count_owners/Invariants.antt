use Rattle.std.proofs.Common.{◌≡◌, ℕ, ◌+◌, ◌<◌, length}
use Rattle.std.specs.Prelude.{slice_index}
use Rattle.xr_base.specs.Address.{address_of}
use Rattle.xr_maps.specs.Records.{count_below, maps_to}
use Rattle.xr_maps.specs.Tables.{slot_of}
use Rattle.xr_maps.proofs.counts.count_owners.Given as goal

-- the owners at the offsets so far are counted
abbrev pub invariant-loop-slot : goal.invariant-loop-slot
invariant-loop-slot l = (i : ℕ) → i < length l.counts → slice_index l.counts i
    ≡ slice_index l.fn.counts i + count_below (λ off. maps_to (address_of (l.first + i)) (slot_of l.table off)) l.slot-index
