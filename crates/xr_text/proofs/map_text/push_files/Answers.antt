use Rattle.std.proofs.Common.{refl, ap, ◌∙◌, ◌++◌}
use Rattle.std.specs.String.{string_bytes}
use Rattle.xr_maps.specs.Records.{AreExtents}
use Rattle.xr_text.specs.MapText.{files_text}
use Rattle.xr_text.specs.RecordText.{extents_text}
use Rattle.xr_text.proofs.ListTextLemmas.{no_lists, appends_more, files_text-push}
use Rattle.xr_text.proofs.map_text.push_files.Goals as goal

pub loop-file-init : goal.loop-file-init
loop-file-init c = no_lists (AreExtents c.args.maps.now) (files_text 0) (string_bytes c.args.text.now) refl

pub loop-file-preserved : goal.loop-file-preserved
loop-file-preserved c =
    appends_more (AreExtents c.args.maps.now) (files_text 0) c.loop-file.file (string_bytes c.args.text.now) (string_bytes c.loop-file.text)
    (string_bytes c.push_extents.new.text) c.in_ok-extents.field-0.items (extents_text c.loop-file.file c.in_ok-extents.field-0.items)
    c.loop-file.invariant c.in_ok-extents.ensures
    (files_text-push c.loop-file.file c.loop-file.invariant.lists c.in_ok-extents.field-0.items c.loop-file.invariant.are.count)
    (c.in_ok-push_extents.ensures ∙ ap (λ records. string_bytes c.loop-file.text ++ extents_text c.loop-file.file records) c.deref.ensures.value)
