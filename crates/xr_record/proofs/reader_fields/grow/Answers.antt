use Rattle.std.proofs.Common.{◌≡◌, ◌≤◌, ◌∙◌, arith, ap, length, take, refl}
use Rattle.std.proofs.lemmas.List.{length-append, length-take-le}
use Rattle.xr_record.specs.declared.operation.Fields.{Fields}
use Rattle.xr_record.specs.Operations.{fields}
use Rattle.xr_record.proofs.GrowthLemmas.{body_grown}
use Rattle.xr_record.proofs.reader_fields.grow.Goals as goal

pub returns-clause-grown : goal.returns-clause-grown
returns-clause-grown c =
    let k = c.args.reader.now in
    let header : c.len.result ≡ length k.header.items = c.len.ensures ∙ k.header.ok.0 in
    let long : 12 ≤ length k.header.items = omega arith in
    let len : c.fields_in-len.result.len ≡ (fields k.header.items).len = ap (λ (f : Fields). f.len) (c.fields_in-len.ensures.fields ∙ ap fields c.deref.ensures.value) in
    let had : c.len-2.result ≡ length k.body.items = c.len-2.ensures ∙ k.body.ok.0 in
    let less = c.requires.awaits.less long in
    let front = c.requires.awaits.growing.front in
    let taken = length-append k.body.items (take c.min-n-2.result c.args.piece.now) in
    let n = length-take-le c.min-n-2.result c.args.piece.now (omega arith) in
    body_grown k _ (take c.min-n-2.result c.args.piece.now) c.requires.awaits refl refl refl refl (c.in_ok-extend_from_slice-2.ensures.items) long (omega arith)
