use Rattle.std.proofs.Common.{◌≡◌, ℕ}
use Rattle.xr_maps.specs.FileMaps.{address_at}
use Rattle.xr_maps.specs.Steps.{exchanged_address}
use Rattle.xr_maps.specs.Tables.{AreTables, maps_of_tables}
use Rattle.xr_maps.proofs.exchange.exchange.Given as goal

-- so far the first i offsets of each range are swapped
abbrev pub invariant-loop-i : goal.invariant-loop-i
invariant-loop-i l = record {
  tables : AreTables l.tables;
  slots : (f o : ℕ) → address_at (maps_of_tables l.tables) f o
      ≡ exchanged_address (maps_of_tables l.fn.tables) l.file.0 l.off l.other.0 l.other_off l.i f o;
}
