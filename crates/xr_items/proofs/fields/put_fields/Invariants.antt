use Rattle.std.proofs.Common.{◌≡◌, ◌++◌, length, take, drop}
use Rattle.xr_items.specs.Fields.{bytes_of_fields}
use Rattle.xr_items.proofs.fields.put_fields.Given as goal

abbrev pub invariant-loop-field : goal.invariant-loop-field
invariant-loop-field l = record {
  written : l.out ≡ bytes_of_fields (take l.field-index l.fields) ++ drop l.place l.initial.out;
  place_is : l.place ≡ length (bytes_of_fields (take l.field-index l.fields));
}
