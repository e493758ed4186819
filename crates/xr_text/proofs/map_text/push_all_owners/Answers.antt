use Rattle.std.proofs.Common.{refl, ap, ◌∙◌, ◌++◌}
use Rattle.std.specs.List.{flat_map}
use Rattle.std.specs.String.{string_bytes}
use Rattle.xr_maps.specs.Records.{AreReverseRecords}
use Rattle.xr_text.specs.RecordText.{owners_text}
use Rattle.xr_text.proofs.ListTextLemmas.{no_lists, appends_more, flat_map-push}
use Rattle.xr_text.proofs.map_text.push_all_owners.Goals as goal

pub loop-group-init : goal.loop-group-init
loop-group-init c = no_lists (AreReverseRecords c.args.maps.now) (flat_map owners_text) (string_bytes c.args.text.now) refl

pub loop-group-preserved : goal.loop-group-preserved
loop-group-preserved c =
    appends_more (AreReverseRecords c.args.maps.now) (flat_map owners_text) c.loop-group.group (string_bytes c.args.text.now) (string_bytes c.loop-group.text)
    (string_bytes c.push_owners.new.text) c.in_ok-owners.field-0.items (owners_text c.in_ok-owners.field-0.items)
    c.loop-group.invariant c.in_ok-owners.ensures
    (flat_map-push owners_text c.loop-group.invariant.lists c.in_ok-owners.field-0.items)
    (c.in_ok-push_owners.ensures ∙ ap (λ records. string_bytes c.loop-group.text ++ owners_text records) c.deref.ensures.value)
