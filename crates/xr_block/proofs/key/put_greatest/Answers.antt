use Rattle.std.proofs.Common.{rules, ◌∙◌, ◌-◌, ◌+◌, ◌≡◌, ap, sym, arith, length}
use Rattle.std.proofs.lemmas.List.{nil_from_length}
use Rattle.xr_block.specs.ItemCheckLaws.{records_count}
use Rattle.xr_block.specs.KeyLaws.{greatest_last, greatest_more, greatest_none}
use Rattle.xr_block.specs.TreeBlock.{records_in}
use Rattle.xr_block.proofs.key.put_greatest.Goals as goal

pub returns-then-HIGH-eq0 : goal.returns-then-HIGH-eq0
returns-then-HIGH-eq0 g c =
    let form = g.R.Record.form in
    let none : form.high ≡ 0 = search rules in
    nil_from_length c.args.out.now (c.requires.room ∙ none) ∙ sym (greatest_none form.high_of (records_in form c.args.block.now) (λ x. g.met.R.Record.is_form.high_sized x ∙ none))

pub loop-k-init : goal.loop-k-init
loop-k-init g c =
    let form = g.R.Record.form in
    let records = records_in form c.args.block.now in
    let counted = records_count form g.met.R.Record.is_form c.args.block.now c.told-block c.fits-block c.requires.tested in
    let k = c.count_of-k.result - 1 in
    let long : length records ≡ k + 1 = omega (arith, counted, c.count_of-k.ensures.count, c.requires.some) in (
      omega (arith, c.count_of-k.ensures.count, c.requires.some),
      c.requires.next_room,
      greatest_last form.high_of records k c.put_high.new.out long (λ d. c.put_high.ensures ∙ ap form.high_of (c.checked_record.ensures.value d)),
    )

pub loop-k-preserved : goal.loop-k-preserved
loop-k-preserved g c =
    let form = g.R.Record.form in
    let records = records_in form c.args.block.now in
    let counted = records_count form g.met.R.Record.is_form c.args.block.now c.told-block c.fits-block c.requires.tested in
    let before = c.loop-k.invariant in
    let k = c.loop-k.k in (
      omega (arith, before.0),
      c.put_high-in-loop-k.auto.out ∙ before.1,
      c.keep_greater.ensures ∙ greatest_more form.high_of records k (k - 1) c.put_high-in-loop-k.new.out c.loop-k.out (omega (arith, c.loop-k-test.true))
          (omega (arith, counted, before.0)) (λ d. c.put_high-in-loop-k.ensures ∙ ap form.high_of (c.checked_record-in-loop-k.ensures.value d)) before.2,
    )
