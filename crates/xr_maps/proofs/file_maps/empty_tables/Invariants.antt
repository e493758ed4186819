use Rattle.std.proofs.Common.{◌≡◌, replicate, length}
use Rattle.std.specs.Prelude.{All}
use Rattle.std.specs.FinMap.{empty}
use Rattle.xr_maps.specs.Tables.{IsTable, maps_of_tables}
use Rattle.xr_maps.proofs.file_maps.empty_tables.Given as goal

abbrev pub invariant-loop : goal.invariant-loop
invariant-loop l =
    (length l.tables.items ≡ l.counter) × All (λ t. IsTable t.items) l.tables.items × (maps_of_tables l.tables.items ≡ replicate l.counter empty)
