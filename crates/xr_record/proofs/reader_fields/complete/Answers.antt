use Rattle.std.proofs.Common.{◌∙◌, refl, sym, arith}
use Rattle.std.proofs.lemmas.List.{drop_all, take_rest}
use Rattle.xr_record.specs.ReaderFields.{front_of}
use Rattle.xr_record.specs.HoldLaws.{body_breaks, completes, held_total}
use Rattle.xr_record.proofs.reader_fields.complete.Goals as goal

pub returns-in-Some-clause-fault : goal.returns-in-Some-clause-fault
returns-in-Some-clause-fault c =
    let k = c.args.reader.now in
    let fault = rw (c.front_of-front.ensures, c.deref.ensures.value, c.deref-2.ensures.value, take_rest) at c.body_fault.ensures.fault k.body.items in
    (refl, body_breaks k c.args.fields.now c.args.sort c.in-Some.kind c.requires.growing c.requires.header (sym fault ∙ c.in-Some.is))

pub returns-clause-completes : goal.returns-clause-completes
returns-clause-completes c =
    let k = c.args.reader.now in
    let fault = rw (c.front_of-front.ensures, c.deref.ensures.value, c.deref-2.ensures.value, take_rest) at c.body_fault.ensures.fault k.body.items in
    let small = rw (c.front_of-front.ensures, c.deref-2.ensures.value, take_rest) at c.body_fault.ensures.small in
    let applied = c.in_ok-entry.ensures in
    let total = held_total k c.args.fields.now c.args.sort c.requires.growing c.requires.header in
    completes k c.args.fields.now c.args.sort _ c.in_ok-entry.entry c.requires.growing c.requires.header (sym fault ∙ c.in-None.is) applied.goes
    (rw c.clear.ensures.items (drop_all (front_of c.apply.new.reader.stage) c.apply.new.reader.body.items (omega (arith, applied.gone))))
    small (λ fits. omega (arith, total, applied.place, c.saturating_add.ensures, c.from.ensures, c.saturating_add-reader.ensures))
