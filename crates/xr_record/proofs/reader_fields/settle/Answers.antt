use Rattle.std.proofs.Common.{◌≤◌, ◌∙◌, ap, refl, inl, length, arith}
use Rattle.xr_record.specs.declared.operation.Fields.{Fields}
use Rattle.xr_record.specs.ReaderFields.{region_items}
use Rattle.xr_record.specs.Operations.{fields}
use Rattle.xr_record.specs.HoldLaws.{body_partial, header_breaks}
use Rattle.xr_record.proofs.reader_fields.settle.Goals as goal

pub returns-in-Err-clause-fault : goal.returns-in-Err-clause-fault
returns-in-Err-clause-fault c =
    let k = c.args.reader.now in
    let long : 12 ≤ length k.header.items = omega (arith, k.header.ok.0) in
    let is = c.fields_in-fields.ensures.fields ∙ ap fields c.deref.ensures.value in
    let tested = rw (c.in-Err.is, is) at c.sort_in.ensures (region_items k.regions.items) k.body.items c.requires.front in
    (refl, header_breaks k c.in-Err.kind c.requires long tested)

pub returns-then-len-front_of-clause-settles : goal.returns-then-len-front_of-clause-settles
returns-then-len-front_of-clause-settles c =
    let k = c.args.reader.now in
    let long : 12 ≤ length k.header.items = omega (arith, k.header.ok.0) in
    let is = c.fields_in-fields.ensures.fields ∙ ap fields c.deref.ensures.value in
    let tested = rw (c.in-Ok.is, is) at c.sort_in.ensures (region_items k.regions.items) k.body.items c.requires.front in
    let len = ap (λ (f : Fields). f.len) is in
    inl (refl, refl, body_partial k c.requires long tested.0 (omega (arith, k.body.ok.0)))

pub complete-requires-clause-header : goal.complete-requires-clause-header
complete-requires-clause-header c =
    let k = c.args.reader.now in
    let long : 12 ≤ length k.header.items = omega (arith, k.header.ok.0) in
    let is = c.fields_in-fields.ensures.fields ∙ ap fields c.deref.ensures.value in
    let tested = c.sort_in.ensures (region_items k.regions.items) k.body.items c.requires.front in
    let right = rw c.in-Ok.is at tested in
    let len = ap (λ (f : Fields). f.len) is in
    let most = c.requires.most long in
    let header = c.requires.header in
    record {
      header = omega arith;
      fields_are = is;
      whole = omega (arith, k.body.ok.0);
      right = right.0;
      sort_is = right.1;
      small = rw c.deref.ensures.value at c.fields_in-fields.ensures.small;
    }
