use Rattle.std.proofs.Common.{refl, ap, ◌∙◌, ◌++◌}
use Rattle.std.specs.List.{flat_map}
use Rattle.std.specs.String.{string_bytes}
use Rattle.xr_maps.specs.Records.{AreReferenceRecords}
use Rattle.xr_text.specs.RecordText.{shared_text}
use Rattle.xr_text.proofs.ListTextLemmas.{no_lists, appends_more, flat_map-push}
use Rattle.xr_text.proofs.map_text.push_all_shared.Goals as goal

pub loop-group-init : goal.loop-group-init
loop-group-init c = no_lists (AreReferenceRecords c.args.maps.now) (flat_map shared_text) (string_bytes c.args.text.now) refl

pub loop-group-preserved : goal.loop-group-preserved
loop-group-preserved c =
    appends_more (AreReferenceRecords c.args.maps.now) (flat_map shared_text) c.loop-group.group (string_bytes c.args.text.now) (string_bytes c.loop-group.text)
    (string_bytes c.push_shared.new.text) c.in_ok-shared.field-0.items (shared_text c.in_ok-shared.field-0.items)
    c.loop-group.invariant c.in_ok-shared.ensures
    (flat_map-push shared_text c.loop-group.invariant.lists c.in_ok-shared.field-0.items)
    (c.in_ok-push_shared.ensures ∙ ap (λ records. string_bytes c.loop-group.text ++ shared_text records) c.deref.ensures.value)
