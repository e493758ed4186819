use Rattle.std.proofs.Common.{◌≡◌, ◌∙◌, ◌+◌, ◌++◌, List, ℕ, true, ◌≤◌, ap, arith, inl, inr, length, length-append, refl, subst, sym}
use Rattle.xr_pool.specs.Overlay.{block_at}
use Rattle.xr_verify.specs.Passed.{AreNoted}
use Rattle.xr_block.specs.TreeBlock.{records_in}
use Rattle.xr_verify.proofs.EnterLemmas.{rules_of_leaf}
use Rattle.xr_verify.proofs.RefusalLemmas.{handed_on, refused_so}
use Rattle.xr_verify.proofs.VisitedLemmas.{not_ok}
use Rattle.xr_verify.specs.Ledger.{ArePassed}
use Rattle.xr_verify.specs.Refusals.{RefusesRecords}
use Rattle.xr_verify.proofs.visit.enter_leaf.Goals as goal

pub returns-clause-rules : goal.returns-clause-rules
returns-clause-rules g c = λ noted past.
    let form = g.R.Record.form in
    rules_of_leaf form c.args.over.now c.args.spot.least c.args.spot.left c.args.spot.last c.args.spot.number c.args.seen.now c.block-block.result.now noted
    c.pass.new.self.room c.record_count.result _ _ c.requires.from c.requires.within (c.in_ok-open.ensures.tests.0 (refl {a = true}))
    (c.in_ok-check_place.ensures.right.0 (refl {a = true})) c.block-block.ensures ((c.in_ok-pass.ensures.rules noted past.are_noted).0 (refl {a = true}))
    (ap (λ (room : ℕ). room + length noted) c.pass.ensures.room ∙ past.room_is) c.record_count.ensures c.take_room.ensures.enough

pub returns-clause-past : goal.returns-clause-past
returns-clause-past g c = λ noted past ok.
    let form = g.R.Record.form in
    let same = c.block-block.ensures in
    let are = subst (λ (xs : List ℕ). AreNoted form g.L.Ledger.notes c.pass.new.self (noted ++ records_in form xs)) same
    (c.in_ok-pass.ensures.noted noted past.are_noted (refl {a = true})) in
    let records = records_in form (block_at c.args.over.now c.args.spot.number) in
    let counted : c.record_count.result ≡ length records = c.record_count.ensures ∙ ap (λ (xs : List ℕ). length (records_in form xs)) same in
    record {
      are_noted = record {
        last_is = c.take_room.ensures.last ∙ are.last_is;
        notes = subst (λ (ledger : _). g.L.Ledger.notes ledger (noted ++ records)) (sym c.take_room.ensures.ledger) are.notes;
        records = are.records;
      };
      room_is = omega (arith, c.take_room.ensures.less ok, c.pass.ensures.room, past.room_is, counted, length-append noted records);
    }

pub returns-in_err-pass-clause-refused : goal.returns-in_err-pass-clause-refused
returns-in_err-pass-clause-refused g c = λ noted past.
    let form = g.R.Record.form in
    let opened = c.in_ok-open.ensures.tests.0 (refl {a = true}) in
    let refused = subst (λ (xs : List ℕ). RefusesRecords form noted (records_in form xs) c.in_err-pass.field-0.0) c.block-block.ensures (c.in_err-pass.ensures.refused noted past.are_noted) in
    handed_on c.from_residual-in_err-pass.result _ c.in_err-pass.field-0.0 c.from_residual-in_err-pass.ensures.1 (inr (opened.0, opened.1, inl refused))

pub returns-clause-refused : goal.returns-clause-refused
returns-clause-refused g c = λ noted past.
    let form = g.R.Record.form in
    let opened = c.in_ok-open.ensures.tests.0 (refl {a = true}) in
    let placed = c.in_ok-check_place.ensures.right.0 (refl {a = true}) in
    let same = c.block-block.ensures in
    let passed = subst (λ (xs : List ℕ). ArePassed form (noted ++ records_in form xs)) same ((c.in_ok-pass.ensures.rules noted past.are_noted).0 (refl {a = true})) in
    let records = records_in form (block_at c.args.over.now c.args.spot.number) in
    let counted : c.record_count.result ≡ length records = c.record_count.ensures ∙ ap (λ (xs : List ℕ). length (records_in form xs)) same in
    refused_so c.take_room.result _ _
    (λ kind err is.
    let more : c.record_count.result ≤ c.pass.new.self.room → ⊥ = λ few. not_ok c.take_room.result err (c.take_room.ensures.enough.1 few) in
    inr (opened.0, opened.1, inr (passed, inr (placed.0, placed.1, is, omega (arith, more, counted, c.pass.ensures.room, past.room_is, length-append noted records)))))
    c.take_room.ensures.refused
