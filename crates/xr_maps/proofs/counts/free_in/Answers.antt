use Rattle.std.specs.Global.{Vec}
use Rattle.std.proofs.lemmas.Result.{IfOk-weaker}
use Rattle.xr_base.specs.declared.address.Run.{Run}
use Rattle.xr_maps.specs.Tables.{maps_of_tables}
use Rattle.xr_maps.proofs.GroupRunLemmas.{free_found}
use Rattle.xr_maps.proofs.counts.free_in.Goals as goal

pub returns : goal.returns
returns c = IfOk-weaker c.runs_of_counts.result _ _
    (λ (v : Vec Run) found. free_found (maps_of_tables c.args.tables.now) c.args.group.0 c.first_data.result c.deref.result.now
    c.in_ok-counts.counts.items v.items c.requires.group c.in_ok-counts.ensures c.first_data.ensures c.deref.ensures.value found)
    c.runs_of_counts.ensures
