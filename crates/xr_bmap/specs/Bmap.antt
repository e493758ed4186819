-- A file's extents in a tree: its records, what they map, and what a change of the tree leaves.
use Rattle.std.specs.Prelude.{◌≡◌, ℕ, List, Option}
use Rattle.std.specs.List.{Contains}
use Rattle.xr_base.specs.declared.address.Addr.{Addr}
use Rattle.xr_block.specs.Trees.{IsTree, records_of_tree}
use Rattle.xr_bmap.specs.Slots.{mapped_in}
use Rattle.xr_bmap.specs.declared.bmap.Bmap.{Bmap}
use Rattle.xr_kinds.specs.Mapping.{mapping_form}
use Rattle.xr_kinds.specs.declared.mapping.Mapping.{Mapping}
use Rattle.xr_maps.specs.Steps.{punched_slot, remapped_slot}
use Rattle.xr_pool.specs.Overlay.{Blocks}

abbrev pub IsBmap : Blocks → Bmap → Type 0
IsBmap b m = IsTree mapping_form b m.tree

abbrev pub extents_in_bmap : Blocks → Bmap → List Mapping
extents_in_bmap b m = records_of_tree mapping_form b m.tree

abbrev pub IsExtent : Blocks → Bmap → Mapping → Type 0
IsExtent b m r = Contains (extents_in_bmap b m) r

abbrev pub slot_in : Blocks → Bmap → ℕ → Option Addr
slot_in b m o = mapped_in (extents_in_bmap b m) o

-- the offsets from one on map the blocks from an address on, and all others what they mapped; and nothing is mapped there
abbrev pub RemapsIn : ℕ → ℕ → Addr → Blocks → Bmap → Blocks → Bmap → Type 0
RemapsIn off len at before m after new = (o : ℕ) → slot_in after new o ≡ remapped_slot off len at o (slot_in before m o)

abbrev pub PunchesIn : ℕ → ℕ → Blocks → Bmap → Blocks → Bmap → Type 0
PunchesIn off len before m after new = (o : ℕ) → slot_in after new o ≡ punched_slot off len o (slot_in before m o)
