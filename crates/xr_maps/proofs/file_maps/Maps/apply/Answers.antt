use Rattle.std.proofs.Common.{◌≡◌, length, subst, sym, rules}
use Rattle.xr_maps.specs.Tables.{AreTables}
use Rattle.xr_maps.proofs.ListLemmas.{written_back}
use Rattle.xr_maps.proofs.MapLemmas.{AreGoodMaps-of_tables}
use Rattle.xr_maps.proofs.file_maps.Maps.apply.Goals as goal

pub returns-clause-good : goal.returns-clause-good
returns-clause-good c =
    let long : length c.change.new.tables ≡ c.self.inside.tables.len = search rules in
    AreGoodMaps-of_tables _ (subst AreTables (sym (written_back c.self.inside.tables.items c.change.new.tables c.self.inside.tables.len long)) c.change.ensures.tables)
