-- The next id that an intent may have.
use Rattle.std.specs.Prelude.{ℕ, ◌+◌, max, List, [], ◌∷◌}
use Rattle.xr_items.specs.declared.item.Item.{Item}
use Rattle.xr_items.specs.declared.item.Item.TheVariants.{Buf, Inode, Begin, Done}

-- one more than the greatest id that an item names, intents and done items alike, or 1
abbrev pub next_id : List Item → ℕ
next_id [] = 1
next_id (Begin id work ∷ items) = max (id + 1) (next_id items)
next_id (Done id of ∷ items) = max (id + 1) (next_id items)
next_id (Buf sector ∷ items) = next_id items
next_id (Inode ino ∷ items) = next_id items
