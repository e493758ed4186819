use Rattle.std.proofs.Common.{◌<◌, length, arith}
use Rattle.xr_maps.proofs.ExchangeLemmas.{slot_put}
use Rattle.xr_maps.proofs.exchange.put_slot.Goals as goal

pub returns-clause-slots : goal.returns-clause-slots
returns-clause-slots c =
    let inside : c.args.file.0 < length c.args.tables.now = let l = c.requires.tables.files in let h = c.requires.file in omega arith in
    slot_put c.args.tables.now c.args.file.0 c.args.off c.index-tables-file.result c.args.slot c.requires.tables inside c.requires.off c.requires.block
