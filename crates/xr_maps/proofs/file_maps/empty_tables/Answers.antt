use Rattle.std.proofs.Common.{Option, ◌+◌, ap, ◌∙◌}
use Rattle.std.proofs.lemmas.List.{length_push}
use Rattle.std.specs.Global.{Vec}
use Rattle.std.proofs.lemmas.List.Elements.{All-push}
use Rattle.xr_base.specs.declared.address.Addr.{Addr}
use Rattle.xr_maps.specs.Tables.{IsTable}
use Rattle.xr_maps.proofs.MapLemmas.{empty_pushed}
use Rattle.xr_maps.proofs.file_maps.empty_tables.Goals as goal

pub loop-preserved : goal.loop-preserved
loop-preserved c = rw c.in_ok-push.ensures.items (
    let so_far = c.loop.invariant in (
      length_push c.loop.tables.items c.in_ok-empty_table.field-0 ∙ ap (λ n. n + 1) so_far.0,
      All-push (λ (t : Vec (Option Addr)). IsTable t.items) c.loop.tables.items c.in_ok-empty_table.field-0 so_far.1 c.in_ok-empty_table.ensures.table,
      empty_pushed c.loop.tables.items c.in_ok-empty_table.field-0 c.loop.counter so_far.2 c.in_ok-empty_table.ensures.holes,
    ))
