-- What is pending after more items.
use Rattle.std.specs.Prelude.{◌≡◌, if◌then◌else◌, List, [], ◌∷◌, ◌++◌}
use Rattle.xr_items.specs.declared.item.Item.{Item}
use Rattle.xr_commit.specs.declared.pending.Pending.{Pending}
use Rattle.xr_commit.specs.Pending.{is_done, pending}

-- of pending works those that more items don't end
abbrev pub still : List Item → List Pending → List Pending
still items [] = []
still items (p ∷ ps) = if is_done p.id p.work items then still items ps else (p ∷ still items ps)

abbrev pub PendingGoesOn : Type 0
PendingGoesOn = (items more : List Item) → pending (items ++ more) ≡ still more (pending items) ++ pending more
