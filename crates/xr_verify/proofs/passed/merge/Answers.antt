use Rattle.std.proofs.Common.{◌∙◌, ◌<◌, length, sym, refl, arith}
use Rattle.xr_block.specs.ItemCheckLaws.{records_count}
use Rattle.xr_verify.proofs.PassLemmas.{merged_all, merged_more, merged_next, merged_not}
use Rattle.xr_block.specs.TreeBlock.{records_in}
use Rattle.xr_verify.proofs.passed.merge.Goals as goal

pub returns-then-not-admits-clause-agree : goal.returns-then-not-admits-clause-agree
returns-then-not-admits-clause-agree g c = λ noted notes passed climb.
    let form = g.R.Record.form in
    let laws = g.met.R.Record.is_form in
    let records = records_in form c.args.block.now in
    let record_is = c.checked_record-record.ensures in
    let k = c.loop-k.k in
    let merged = c.loop-k.invariant noted notes passed climb in
    let within : c.loop-k.k < length records = omega (arith, records_count form laws c.args.block.now c.told-block c.fits-block c.requires, c.count_of-k-end.ensures.count, c.loop-k-test.true) in
    let next = merged_next form laws g.L.Ledger.notes c.loop-k.ledger noted records k merged c.checked_record-record.result within record_is.value record_is.valid in
    let not = merged_not form laws g.L.Ledger.notes c.loop-k.ledger noted records k merged c.checked_record-record.result within record_is.value record_is.valid in
    (λ no. absurd cc, λ all. sym c.if-not-admits.true ∙ (c.admits.ensures merged.past merged.notes next).1 (not all))

pub loop-k-preserved : goal.loop-k-preserved
loop-k-preserved g c = λ noted notes passed climb.
    let form = g.R.Record.form in
    let laws = g.met.R.Record.is_form in
    let records = records_in form c.args.block.now in
    let record_is = c.checked_record-record.ensures in
    let k = c.loop-k.k in
    let merged = c.loop-k.invariant noted notes passed climb in
    let within : c.loop-k.k < length records = omega (arith, records_count form laws c.args.block.now c.told-block c.fits-block c.requires, c.count_of-k-end.ensures.count, c.loop-k-test.true) in
    let next = merged_next form laws g.L.Ledger.notes c.loop-k.ledger noted records k merged c.checked_record-record.result within record_is.value record_is.valid in
    let agrees = (c.admits.ensures merged.past merged.notes next).0 c.if-not-admits.false in
    merged_more form laws g.L.Ledger.notes c.loop-k.ledger noted records k merged c.checked_record-record.result within record_is.value record_is.valid
    c.note.new.self agrees (c.note.ensures merged.past merged.notes next agrees)

pub returns-clause-agree : goal.returns-clause-agree
returns-clause-agree g c = λ noted notes passed climb.
    let form = g.R.Record.form in
    let counted = records_count form g.met.R.Record.is_form c.args.block.now c.told-block c.fits-block c.requires in
    let all = merged_all form g.met.R.Record.is_form g.L.Ledger.notes c.loop-k.ledger noted (records_in form c.args.block.now) c.loop-k.k
    (c.loop-k.invariant noted notes passed climb) (omega (arith, counted, c.count_of-k-end.ensures.count, c.loop-k-test.false)) in
    (λ yes. all.1, λ yes. refl)

pub returns-clause-noted : goal.returns-clause-noted
returns-clause-noted g c = λ noted notes passed climb yes.
    let form = g.R.Record.form in
    let counted = records_count form g.met.R.Record.is_form c.args.block.now c.told-block c.fits-block c.requires in
    (merged_all form g.met.R.Record.is_form g.L.Ledger.notes c.loop-k.ledger noted (records_in form c.args.block.now) c.loop-k.k
    (c.loop-k.invariant noted notes passed climb) (omega (arith, counted, c.count_of-k-end.ensures.count, c.loop-k-test.false))).0
