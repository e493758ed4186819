use Rattle.std.proofs.Common.{◌<◌, length, subst, arith}
use Rattle.std.specs.Global.{Vec}
use Rattle.std.proofs.lemmas.Result.{IfOk-weaker}
use Rattle.xr_maps.specs.declared.records.Extent.{Extent}
use Rattle.xr_maps.specs.Tables.{slot_of}
use Rattle.xr_maps.specs.Records.{AreExtents, AreExtentsOf}
use Rattle.xr_maps.proofs.MapLemmas.{extents_in_table}
use Rattle.xr_maps.proofs.file_maps.Maps.extents.Goals as goal

pub returns : goal.returns
returns c =
    let tables = c.self.inside.tables.items in
    let inside : c.args.file.0 < length tables = let l = c.self.invariant.files in let h = c.requires in omega arith in
    IfOk-weaker c.extents_of.result _ _
    (λ (v : Vec Extent) found. subst (λ maps. AreExtents maps c.args.file.0 v.items) c.self.view_is
    (extents_in_table tables c.args.file.0 c.index.result.now v.items c.self.invariant inside c.index.ensures
    (subst (λ t. AreExtentsOf (slot_of t) v.items) c.deref.ensures.value found)))
    c.extents_of.ensures
