use Rattle.std.proofs.Common.{refl, ◌∙◌, sym}
use Rattle.xr_verify.proofs.LastLedgerLemmas.{agrees_after, none_before}
use Rattle.xr_verify.proofs.ledger_last.LastRecordLedger.admits.Goals as goal

pub returns-in-Some : goal.returns-in-Some
returns-in-Some g c = λ noted notes next.
    let both = agrees_after g.R.Record.form g.met.R.InRows.suffice noted c.in-Some.last c.args.r.now next (sym notes ∙ c.in-Some.is) in
    (λ yes. both.0 (sym c.agrees.ensures ∙ yes), λ all. c.agrees.ensures ∙ both.1 all)

pub returns-in-None : goal.returns-in-None
returns-in-None g c = λ noted notes next. (λ yes. none_before g.R.Record.form noted c.args.r.now (sym notes ∙ c.in-None.is), λ all. refl)
