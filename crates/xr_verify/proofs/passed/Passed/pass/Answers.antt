use Rattle.std.proofs.Common.{◌∙◌, ap, sym, subst, None, Option}
use Rattle.std.specs.List.{last_or}
use Rattle.xr_verify.proofs.LastLemmas.{last_or-append}
use Rattle.xr_verify.proofs.PassLemmas.{climbs_if}
use Rattle.xr_verify.specs.Ledger.{Climb}
use Rattle.xr_block.specs.TreeBlock.{records_in}
use Rattle.xr_verify.proofs.passed.Passed.pass.Goals as goal

pub returns-then-not-climb-clause-rules : goal.returns-then-not-climb-clause-rules
returns-then-not-climb-clause-rules g c = λ noted are.
    let form = g.R.Record.form in
    let records = records_in form c.args.block.now in (
      λ no. absurd cc,
      λ all. sym c.if-not-climb.true
          ∙ c.climb.ensures.1 (subst (λ (o : Option _). Climb form o records) (sym are.last_is) (climbs_if form noted records all.ascend)),
    )

pub returns-clause-noted : goal.returns-clause-noted
returns-clause-noted g c = λ noted are yes.
    let form = g.R.Record.form in
    let records = records_in form c.args.block.now in
    let climb = subst (λ (o : Option _). Climb form o records) are.last_is (c.climb.ensures.0 c.if-not-climb.false) in
    record {
      last_is = c.last_record-self.ensures ∙ ap (λ (o : Option _). last_or o records) are.last_is ∙ sym (last_or-append None noted records);
      notes = c.merge.ensures.noted noted are.notes are.records climb c.if-not-merge.false;
      records = (c.merge.ensures.agree noted are.notes are.records climb).0 c.if-not-merge.false;
    }
