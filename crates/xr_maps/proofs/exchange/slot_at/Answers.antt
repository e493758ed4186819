use Rattle.std.proofs.Common.{◌≡◌, ◌<◌, Option, None, length, sym, subst, ◌∙◌, arith}
use Rattle.std.specs.Prelude.{IfSome}
use Rattle.std.proofs.lemmas.List.{get_or_read}
use Rattle.xr_base.specs.Address.{IsData}
use Rattle.xr_base.specs.declared.address.Addr.{Addr}
use Rattle.xr_maps.specs.FileMaps.{address_at}
use Rattle.xr_maps.specs.Tables.{maps_of_tables}
use Rattle.xr_maps.proofs.MapLemmas.{address_in_table, IsTable-read, good_block}
use Rattle.xr_maps.proofs.exchange.slot_at.Goals as goal

pub returns : goal.returns
returns c =
    let tables = c.args.tables.now in
    let table = c.index-tables-file.result in
    let inside : c.args.file.0 < length tables = let l = c.requires.tables.files in let h = c.requires.file in omega arith in
    let is = IsTable-read tables c.args.file.0 table c.requires.tables inside c.index-tables-file.is in
    let there : c.args.off < length table.items = let l = is.slots in let h = c.requires.off in omega arith in
    let same : address_at (maps_of_tables tables) c.args.file.0 c.args.off ≡ c.index.result.now =
    address_in_table tables c.args.file.0 c.args.off table c.requires.tables inside c.index-tables-file.is
    ∙ sym (get_or_read table.items c.args.off c.index.result.now there c.index.ensures None) in
    record {
      address = sym same;
      block = subst (λ (slot : Option Addr). IfSome slot IsData) same (good_block tables c.requires.tables c.args.file.0 c.args.off);
    }
