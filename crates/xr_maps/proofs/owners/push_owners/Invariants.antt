use Rattle.std.proofs.Common.{◌≡◌, ℕ, ◌+◌, ◌-◌, ◌≤◌, length}
use Rattle.xr_maps.specs.Records.{RunsOn}
use Rattle.xr_maps.specs.Owners.{AreOwnersBelow, place_of}
use Rattle.xr_maps.specs.Tables.{slot_of, maps_of_tables}
use Rattle.xr_maps.proofs.owners.push_owners.Given as goal

abbrev pub invariant-loop-extent : goal.invariant-loop-extent
invariant-loop-extent l =
    (l.place ≤ length l.table.items)
    × AreOwnersBelow (maps_of_tables l.tables) l.group.0 (place_of l.file l.place) l.records.items
    × ((k : ℕ) → k + 1 ≡ l.place → ¬ RunsOn (slot_of l.table.items) k)

abbrev pub decreases-loop-extent : goal.decreases-loop-extent
decreases-loop-extent l = length l.table.items - l.place
