-- What is pending after the works in some slots are done.
use Rattle.std.specs.Prelude.{◌≡◌, ◌≢◌, ◌⊎◌, ◌==◌, ℕ, not, List, map}
use Rattle.std.specs.List.{AllByRecursion, filter, list_any}
use Rattle.xr_items.specs.declared.item.Item.{Item}
use Rattle.xr_items.specs.declared.item.Item.TheVariants.{Done}
use Rattle.xr_log.specs.declared.held.Slotted.{Slotted}
use Rattle.xr_log.specs.PendingAfter.{still}
use Rattle.xr_log.specs.Slots.{pending_in, slots_in}
use Rattle.xr_log.specs.TransactionItems.{done_of}

-- the entries that stay where the works in some slots are done
abbrev pub kept_entries : List ℕ → List Slotted → List Slotted
kept_entries done table = filter (λ (s : Slotted). not (list_any (λ (slot : ℕ). slot == s.slot) done)) table

-- what says that the works of these entries are done
abbrev pub done_items : List Slotted → List Item
done_items ended = map (λ (s : Slotted). Done s.id (done_of s.work)) ended

-- two entries of one table: they are one, or have other ids and other slots
abbrev pub Agree : Slotted → Slotted → Type 0
Agree one two = (one ≡ two) ⊎ ((one.id ≢ two.id) × (one.slot ≢ two.slot))

abbrev pub AllAgree : List Slotted → Slotted → Type 0
AllAgree ended s = AllByRecursion (λ (e : Slotted). Agree e s) ended

-- what their done items leave pending are the works in other slots
abbrev pub EndsSlots : Type 0
EndsSlots = (table ended : List Slotted) → AllByRecursion (AllAgree ended) table
    → still (done_items ended) (pending_in table) ≡ pending_in (kept_entries (slots_in ended) table)
