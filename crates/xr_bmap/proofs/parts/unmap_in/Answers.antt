-- The tree is changed, and the core follows it.
use Rattle.std.proofs.Common.{ap, ◌∙◌, List}
use Rattle.xr_bmap.proofs.CoreLemmas.{old_core, parts_changed}
use Rattle.xr_bmap.specs.Slots.{mapped_in}
use Rattle.xr_kinds.specs.declared.mapping.Mapping.{Mapping}
use Rattle.xr_tree.specs.RoomLaws.{files_have_room}
use Rattle.xr_bmap.proofs.parts.unmap_in.Goals as goal

pub unmap-requires-clause-room : goal.unmap-requires-clause-room
unmap-requires-clause-room c = let room = files_have_room c.args.over.now c.args.bmap.now.tree c.requires.file.tree in room.free

pub write_core-requires : goal.write_core-requires
write_core-requires c =
    rw c.core_of-before.ensures.is
    (record { file = old_core _ _ _ _ _ _ 2 14 c.requires.known c.requires.file c.unmap.ensures.step c.has_blocks.ensures.image })

pub returns-clause-unmapped : goal.returns-clause-unmapped
returns-clause-unmapped c o = ap (λ (xs : List Mapping). mapped_in xs o) c.write_core.ensures.written.same_records ∙ c.unmap.ensures.unmapped o

pub returns-clause-change : goal.returns-clause-change
returns-clause-change c =
    parts_changed _ _ _ _ _ _ 2 14 c.requires.known c.requires.file c.unmap.ensures.step c.has_blocks.ensures.image _ c.write_core.ensures.written
