use Rattle.std.proofs.Common.{◌≡◌, ◌≤◌, ◌+◌, ◌++◌, length, take}
use Rattle.std.specs.Prelude.{vec_capacity, vec_len}
use Rattle.xr_log.specs.PlacedWorks.{entries_of}
use Rattle.xr_log.specs.Slots.{AreApartSlots, slots_in}
use Rattle.xr_log.proofs.slots.place_works.Given as goal

abbrev pub invariant-loop-i : goal.invariant-loop-i
invariant-loop-i l = (l.table.items ≡ l.initial.table.items ++ entries_of l.next (take l.i l.slots) (take l.i l.works))
    × (AreApartSlots (slots_in l.initial.table.items) → AreApartSlots (slots_in l.table.items))
    × (vec_len l.table ≡ vec_len l.initial.table + l.i) × (vec_capacity l.initial.table ≤ vec_capacity l.table) × (length l.slots ≡ 12)
