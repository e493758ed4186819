use Rattle.std.proofs.Common.{◌≡◌, ◌+◌, ◌++◌, ◌∙◌, refl, arith, length, take, get_or}
use Rattle.std.proofs.lemmas.List.{length-append}
use Rattle.xr_items.specs.declared.fields.Field.{Field}
use Rattle.xr_items.specs.declared.fields.Field.TheVariants.{Half}
use Rattle.xr_items.specs.Fields.{bytes_of_fields, field_bytes}
use Rattle.xr_items.specs.FieldLaws.{next_fits, bytes_of_fields-more, written_past, length-field_bytes}
use Rattle.xr_items.proofs.fields.put_fields.Goals as goal

pub loop-field-init : goal.loop-field-init
unfolding bytes_of_fields
loop-field-init c = record { written = refl; place_is = refl }

pub put_field-place-requires : goal.put_field-place-requires
put_field-place-requires c =
    next_fits c.args.fields.now c.loop-field.field-index c.loop-field.place (length c.loop-field.out) (Half 0) (omega arith) (omega arith) c.loop-field.invariant.place_is

pub loop-field-preserved : goal.loop-field-preserved
loop-field-preserved c =
    let fields = c.args.fields.now in
    let i = c.loop-field.field-index in
    let field : Field = get_or fields i (Half 0) in
    let front = bytes_of_fields (take i fields) in
    let next : bytes_of_fields (take (i + 1) fields) ≡ front ++ field_bytes field = bytes_of_fields-more fields i (Half 0) (omega arith) in
    let bytes = field_bytes field in
    let place : c.put_field-place.result ≡ c.loop-field.place + length bytes = omega (arith, length-field_bytes field, c.put_field-place.ensures.next) in
    record {
      written = written_past c.loop-field.place front bytes c.args.out.now c.loop-field.out c.put_field-place.new.out c.loop-field.invariant.written
          c.loop-field.invariant.place_is c.put_field-place.ensures.written
          ∙ rw (next, place) refl;
      place_is = place ∙ rw next (omega (arith, length-append front bytes, c.loop-field.invariant.place_is));
    }
