use Rattle.std.proofs.Common.{◌≡◌, ◌==◌, ◌<◌, ℕ, true}
use Rattle.std.specs.List.{list_any}
use Rattle.xr_log.specs.declared.held.Slotted.{Slotted}
use Rattle.xr_log.proofs.slots.free_slot.Given as goal

abbrev pub invariant-loop-slot : goal.invariant-loop-slot
invariant-loop-slot l = (k : ℕ) → k < l.slot → list_any (λ (s : Slotted). s.slot == k) l.table ≡ true
