use Rattle.xr_maps.proofs.MapLemmas.{AreGoodMaps-of_tables}
use Rattle.xr_maps.proofs.file_maps.Maps.new.Goals as goal

pub returns-clause-good : goal.returns-clause-good
returns-clause-good c = AreGoodMaps-of_tables c.in_ok-empty_tables.field-0.items c.in_ok-empty_tables.ensures.tables
