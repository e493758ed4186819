use Rattle.std.proofs.Common.{subst}
use Rattle.xr_maps.specs.FileMaps.{AreGoodMaps}
use Rattle.xr_maps.proofs.MapLemmas.{AreGoodMaps-of_tables}
use Rattle.xr_maps.proofs.file_maps.Maps.map_only_data_blocks.Goals as goal

pub returns : goal.returns
returns c = subst AreGoodMaps c.self.view_is (AreGoodMaps-of_tables c.self.inside.tables.items c.self.invariant)
