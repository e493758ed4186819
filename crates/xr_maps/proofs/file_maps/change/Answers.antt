use Rattle.std.proofs.Common.{◌<◌, ◌≡◌, length, get_or, arith, rules}
use Rattle.xr_maps.specs.Steps.{remapped_slot, punched_slot}
use Rattle.xr_maps.specs.Tables.{maps_of_tables}
use Rattle.xr_maps.proofs.MapLemmas.{table_written, Changes-remap, Changes-punch, AreGoodMaps-of_tables}
use Rattle.xr_maps.proofs.ExchangeLemmas.{maps_exchanged}
use Rattle.xr_maps.proofs.file_maps.change.Goals as goal

pub returns-in-Remap : goal.returns-in-Remap
returns-in-Remap c =
    let fits = rw c.in-Remap.is at c.requires.fits in
    let inside : c.in-Remap.file.0 < length c.args.tables.now = let l = c.requires.tables.files in let h = fits.0.file_there in omega arith in
    let old = (get_or c.args.tables.now c.in-Remap.file.0 c.index-tables-file.result).items in
    let long : length c.remap.new.table ≡ length old = search rules in
    let changed = table_written (remapped_slot c.in-Remap.off c.in-Remap.len c.in-Remap.at) c.args.tables.now c.in-Remap.file.0 c.index-tables-file.result c.remap.new.table
    c.requires.tables inside (Changes-remap c.in-Remap.off c.in-Remap.len c.in-Remap.at old c.remap.new.table fits.1 long (rw (← c.deref_mut.ensures.value) c.remap.ensures)) in
    record { tables = changed.are; maps = rw c.in-Remap.is changed.maps }

pub returns-in-Punch : goal.returns-in-Punch
returns-in-Punch c =
    let fits = rw c.in-Punch.is at c.requires.fits in
    let inside : c.in-Punch.file.0 < length c.args.tables.now = let l = c.requires.tables.files in let h = fits.file_there in omega arith in
    let old = (get_or c.args.tables.now c.in-Punch.file.0 c.index-tables-file-in-Punch.result).items in
    let long : length c.punch.new.table ≡ length old = search rules in
    let changed = table_written (punched_slot c.in-Punch.off c.in-Punch.len) c.args.tables.now c.in-Punch.file.0 c.index-tables-file-in-Punch.result c.punch.new.table
    c.requires.tables inside (Changes-punch c.in-Punch.off c.in-Punch.len old c.punch.new.table long (rw (← c.deref_mut-in-Punch.ensures.value) c.punch.ensures)) in
    record { tables = changed.are; maps = rw c.in-Punch.is changed.maps }

pub returns-in-Exchange : goal.returns-in-Exchange
returns-in-Exchange c =
    let fits = rw c.in-Exchange.is at c.requires.fits in
    let old = c.args.tables.now in
    record {
      tables = c.exchange.ensures.tables;
      maps = rw c.in-Exchange.is (maps_exchanged (maps_of_tables old) (maps_of_tables c.exchange.new.tables) _ _ _ _ _
          (AreGoodMaps-of_tables old c.requires.tables) (AreGoodMaps-of_tables c.exchange.new.tables c.exchange.ensures.tables)
          fits.0.file_there fits.1.file_there fits.0.within fits.1.within c.exchange.ensures.slots);
    }
