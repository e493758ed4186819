-- New works in the table of pending works.
use Rattle.std.specs.Prelude.{ℕ, suc, List, [], ◌∷◌}
use Rattle.xr_items.specs.declared.work.Work.{Work}
use Rattle.xr_log.specs.declared.held.Slotted.{Slotted}

-- works in these slots, with ids from one on
abbrev pub entries_of : ℕ → List ℕ → List Work → List Slotted
entries_of next (slot ∷ slots) (work ∷ works) = record { id = next; slot = slot; work = work } ∷ entries_of (suc next) slots works
entries_of next _ _ = []
