-- The pending works of a log, each in its slot and with its id.
use Rattle.std.specs.Prelude.{◌≢◌, ℕ, List, AllPairs, map}
use Rattle.std.proofs.Props.{props}
use Rattle.xr_commit.specs.declared.pending.Pending.{Pending}
use Rattle.xr_log.specs.declared.held.Slotted.{Slotted}

abbrev pub slots_in : List Slotted → List ℕ
slots_in table = map (λ (s : Slotted). s.slot) table

abbrev pub pending_in : List Slotted → List Pending
pending_in table = map (λ (s : Slotted). (let p : Pending = record { id = s.id; work = s.work } in p)) table

abbrev pub AreApartSlots : List ℕ → Type 0
AreApartSlots slots = AllPairs (λ (one two : ℕ). one ≢ two) slots

pub AreApartSlots-prop : (slots : List ℕ) → IsProp (AreApartSlots slots)
AreApartSlots-prop slots = Prim.hlevel props
