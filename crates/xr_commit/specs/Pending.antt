-- Which intents of a log are pending.
use Rattle.std.specs.Prelude.{ℕ, Bool, true, false, ◌&&◌, ◌==◌, if◌then◌else◌, List, [], ◌∷◌}
use Rattle.std.specs.Global.{Vec}
use Rattle.std.specs.List.{flat_map, list_any}
use Rattle.xr_items.specs.declared.item.DoneOf.{DoneOf}
use Rattle.xr_items.specs.declared.item.DoneOf.TheVariants.{Efd, Rud, Cud, Bud, Xmd}
use Rattle.xr_items.specs.declared.item.Item.{Item}
use Rattle.xr_items.specs.declared.item.Item.TheVariants.{Buf, Inode, Begin, Done}
use Rattle.xr_items.specs.declared.work.Work.{Work}
use Rattle.xr_items.specs.declared.work.Work.TheVariants.{Free, Own, Count, Map, Swap}
use Rattle.xr_commit.specs.declared.pending.Pending.{Pending}

-- a kind of done item is that of a work
abbrev pub suits : Work → DoneOf → Bool
suits (Free run) (Efd freed) = true
suits (Own kind owner off run) Rud = true
suits (Count kind run) Cud = true
suits (Map kind file off run) Bud = true
suits (Swap file off other other_off len) Xmd = true
suits _ _ = false

-- an item says that a work with this id is done
abbrev pub ends : ℕ → Work → Item → Bool
ends id work (Done ended of) = ended == id && suits work of
ends id work _ = false

abbrev pub is_done : ℕ → Work → List Item → Bool
is_done id work items = list_any (ends id work) items

-- The intents that no later item ends, in log order. What ends an intent that isn't there is passed over.
abbrev pub pending : List Item → List Pending
pending [] = []
pending (Begin id work ∷ later) = if is_done id work later then pending later else (record { id = id; work = work } ∷ pending later)
pending (Buf sector ∷ later) = pending later
pending (Inode ino ∷ later) = pending later
pending (Done id of ∷ later) = pending later

-- the items of some lists, one list after another
abbrev pub joined_items : List (Vec Item) → List Item
joined_items lists = flat_map (λ (list : Vec Item). list.items) lists
