use Rattle.std.proofs.Common.{refl, ap, ◌∙◌, ◌++◌}
use Rattle.std.specs.List.{flat_map}
use Rattle.std.specs.String.{string_bytes}
use Rattle.xr_maps.specs.Records.{AreFreeRecords}
use Rattle.xr_text.specs.RecordText.{free_text}
use Rattle.xr_text.proofs.ListTextLemmas.{no_lists, appends_more, flat_map-push}
use Rattle.xr_text.proofs.map_text.push_all_free.Goals as goal

pub loop-group-init : goal.loop-group-init
loop-group-init c = no_lists (AreFreeRecords c.args.maps.now) (flat_map free_text) (string_bytes c.args.text.now) refl

pub loop-group-preserved : goal.loop-group-preserved
loop-group-preserved c =
    appends_more (AreFreeRecords c.args.maps.now) (flat_map free_text) c.loop-group.group (string_bytes c.args.text.now) (string_bytes c.loop-group.text)
    (string_bytes c.push_free.new.text) c.in_ok-free.field-0.items (free_text c.in_ok-free.field-0.items)
    c.loop-group.invariant c.in_ok-free.ensures
    (flat_map-push free_text c.loop-group.invariant.lists c.in_ok-free.field-0.items)
    (c.in_ok-push_free.ensures ∙ ap (λ records. string_bytes c.loop-group.text ++ free_text records) c.deref.ensures.value)
