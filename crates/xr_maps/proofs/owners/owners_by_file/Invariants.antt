use Rattle.xr_maps.specs.Owners.{AreOwnersBelow, place_of}
use Rattle.xr_maps.specs.Tables.{maps_of_tables}
use Rattle.xr_maps.proofs.owners.owners_by_file.Given as goal

abbrev pub invariant-loop-file : goal.invariant-loop-file
invariant-loop-file l = AreOwnersBelow (maps_of_tables l.tables) l.fn.group.0 (place_of l.file 0) l.records.items
