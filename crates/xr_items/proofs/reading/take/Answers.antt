use Rattle.std.proofs.Common.{rules, ◌≡◌, ◌∙◌, Ok, Err, ℕ, ap, subst, arith}
use Rattle.xr_items.specs.declared.item.ItemFault.TheVariants.{Field}
use Rattle.xr_items.specs.FirstBroken.{RefusesItem}
use Rattle.xr_items.specs.ItemLaws.{framed_item, held_item, item_from, never_refused, refused_once, same_item, same_kind_of}
use Rattle.xr_items.proofs.reading.take.Goals as goal

pub returns-in_err-kind-clause-complete : goal.returns-in_err-kind-clause-complete
returns-in_err-kind-clause-complete c =
    λ item valid is. absurd (never_refused item c.args.region.now c.in_err-kind.field-0.0 valid is c.in_err-kind.ensures)

pub returns-in_err-kind-clause-refused : goal.returns-in_err-kind-clause-refused
returns-in_err-kind-clause-refused c =
    λ fault.
    let same : c.from_residual.result ≡ Err c.in_err-kind.field-0.0 = search rules in (
      λ is. let e : c.in_err-kind.field-0.0 ≡ fault = cc in subst (RefusesItem c.args.region.now) e c.in_err-kind.ensures,
      λ refused. same ∙ ap Err (refused_once c.args.region.now c.in_err-kind.field-0.0 fault c.in_err-kind.ensures refused),
    )

pub returns-in-Ok-clause-ok : goal.returns-in-Ok-clause-ok
returns-in-Ok-clause-ok c =
    let body = c.in-Ok.ensures in
    (body.valid, item_from c.in-Ok.item c.in_ok-kind.kind c.args.region.now (λ (i : ℕ). let fits = c.type_inv.region i in omega arith) c.in_ok-kind.ensures body)

pub returns-in-Ok-clause-complete : goal.returns-in-Ok-clause-complete
returns-in-Ok-clause-complete c =
    λ item valid is.
    let bytes = c.args.region.now in
    let body = c.in-Ok.ensures in
    let kind = same_kind_of bytes c.in_ok-kind.kind _ c.in_ok-kind.ensures.of_kind (framed_item item bytes valid is).of_kind in
    ap Ok (same_item c.in-Ok.item item bytes (body.of_kind ∙ kind) body.fields (held_item item bytes valid is).1.1)

pub returns-in-Ok-clause-refused : goal.returns-in-Ok-clause-refused
returns-in-Ok-clause-refused c =
    λ fault.
    let ok = returns-in-Ok-clause-ok c in
    (λ is. cc, λ refused. absurd (never_refused c.in-Ok.item c.args.region.now fault ok.0 ok.1 refused))

pub returns-in-Err-clause-complete : goal.returns-in-Err-clause-complete
returns-in-Err-clause-complete c =
    λ item valid is. absurd (never_refused item c.args.region.now (Field c.in-Err.place) valid is (c.in_ok-kind.kind, c.in_ok-kind.ensures, c.in-Err.ensures))

pub returns-in-Err-clause-refused : goal.returns-in-Err-clause-refused
returns-in-Err-clause-refused c =
    λ fault.
    let here : RefusesItem c.args.region.now (Field c.in-Err.place) = (c.in_ok-kind.kind, c.in_ok-kind.ensures, c.in-Err.ensures) in (
      λ is. let e : Field c.in-Err.place ≡ fault = cc in subst (RefusesItem c.args.region.now) e here,
      λ refused. ap Err (refused_once c.args.region.now (Field c.in-Err.place) fault here refused),
    )
